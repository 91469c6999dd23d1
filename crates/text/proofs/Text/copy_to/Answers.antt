-- The bytes copied are those that the text holds.
use Rattle.constraint.proofs.Library.{rules}
use Rattle.text.proofs.{Texts.copied_held, Texts.copied_short, Texts.room_held, Texts.room_short}
use Rattle.text.proofs.Text.copy_to.Goals as goal

pub returns-then-buffer-len : goal.returns-then-buffer-len
returns-then-buffer-len c =
    let text = c.args.self in let before = c.args.buffer.now in
    record {
      copied = copied_short text before c.min-len.result (search rules) c.min-len.ensures c.if-buffer-len.true;
      fits = room_short text before c.min-len.result (search rules) c.min-len.ensures c.if-buffer-len.true;
    }

pub returns : goal.returns
returns c =
    let text = c.args.self in let before = c.args.buffer.now in
    rw c.put.ensures
    (record {
      copied = copied_held text before c.min-len.result (search rules) c.min-len.ensures c.if-buffer-len.false;
      fits = room_held text before c.min-len.result (search rules) c.min-len.ensures c.if-buffer-len.false;
    })
