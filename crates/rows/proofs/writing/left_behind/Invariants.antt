use Rattle.std.proofs.Common.{◌≡◌, ◌+◌, length, drop}
use Rattle.rows.specs.Rows.{row}
use Rattle.rows.proofs.Joining.{rest}
use Rattle.rows.proofs.writing.left_behind.Given as goal

-- The row is longer than what is still to be written by as much as was taken of the room.
abbrev pub invariant-loop-i : goal.invariant-loop-i
invariant-loop-i l = length (rest l.i (drop l.i l.fields) l.end) + l.room ≡ length (row l.fields l.end) + l.left
