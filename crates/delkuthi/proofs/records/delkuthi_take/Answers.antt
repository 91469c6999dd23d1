-- The number is that of the answer.
use Rattle.delkuthi.proofs.{TakenRecords.taken_small}
use Rattle.table.specs.ReadAnswer.{read_answer_of}
use Rattle.delkuthi.proofs.records.delkuthi_take.Goals as goal

pub returns : goal.returns
returns c =
    record {
      answer = read_answer_of c.take_records.result;
      takes = c.take_records.ensures;
      equals = c.taken_number.ensures;
      small = taken_small c.take_records.ensures;
    }
