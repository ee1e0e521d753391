use Rattle.std.proofs.Common.{◌≡◌, map, None}
use Rattle.rows.specs.Rows.{spelled}
use Rattle.lines.specs.Questions.{first_fault}
use Rattle.lines.proofs.writing.write_fields.Given as goal

-- The fields so far pass.
abbrev pub invariant-loop-i : goal.invariant-loop-i
invariant-loop-i l = first_fault l.letter (map spelled l.fields) 2 l.i ≡ None
