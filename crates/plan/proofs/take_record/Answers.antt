-- `plan::take_record` meets its contract. Assumes nothing.

use Rattle.plan.proofs.take_record.Goals as goal

pub note_if-requires : goal.note_if-requires
note_if-requires c = let p = c.requires in (p.0, p.1, p.2, p.3)

pub returns : goal.returns
returns c = record {
  more = c.one_more.ensures;
  noted = c.note_if.ensures;
  num = c.put_if.ensures;
  place = c.put_if-2.ensures;
}
