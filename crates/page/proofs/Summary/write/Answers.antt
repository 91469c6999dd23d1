-- The length is known from the number of rows alone: the buffer is tested against it first, and then the lines are put one after the other.
use Rattle.constraint.proofs.Library.{◌∙◌, eqb-false, eqb-true, rules, sym}
use Rattle.constraint.specs.{Page.hyphens}
use Rattle.page.proofs.{Pages.copied_heading, Pages.copied_nothing, Pages.copied_page, Pages.room_held, Pages.room_short}
use Rattle.page.proofs.Summary.write.Goals as goal

pub returns-then-buffer-size : goal.returns-then-buffer-size
returns-then-buffer-size c =
    let page = c.args.self.now in let before = c.args.buffer.now in let rows = c.rows-rows.result.now in
    record {
      copied = copied_nothing page before c.size-size.result rows (search rules) c.rows-rows.ensures c.size-size.ensures c.if-buffer-size.true;
      fits = room_short page before c.size-size.result rows (search rules) c.rows-rows.ensures c.size-size.ensures c.if-buffer-size.true;
    }

pub returns-then-is_empty : goal.returns-then-is_empty
unfolding hyphens
returns-then-is_empty c =
    let page = c.args.self.now in let before = c.args.buffer.now in let rows = c.rows-rows.result.now in
    record {
      copied = copied_heading page before c.size-size.result rows (search rules) c.rows-rows.ensures c.size-size.ensures
          c.put.new.buffer c.if-buffer-size.false (eqb-true _ 0 (sym c.is_empty.ensures ∙ c.if-is_empty.true)) c.put.ensures;
      fits = room_held page before c.size-size.result rows (search rules) c.rows-rows.ensures c.size-size.ensures c.if-buffer-size.false;
    }

pub returns : goal.returns
returns c =
    let page = c.args.self.now in let before = c.args.buffer.now in let rows = c.rows-rows.result.now in
    record {
      copied = copied_page page before c.size-size.result rows (search rules) c.rows-rows.ensures c.size-size.ensures
          c.put_rows.new.buffer c.if-buffer-size.false (eqb-false _ 0 (sym c.is_empty.ensures ∙ c.if-is_empty.false)) c.put_rows.ensures;
      fits = room_held page before c.size-size.result rows (search rules) c.rows-rows.ensures c.size-size.ensures c.if-buffer-size.false;
    }
