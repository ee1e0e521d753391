use Rattle.std.proofs.Common.{◌≡◌, drop, decimal}
use Rattle.rows.specs.Rows.{over}
use Rattle.rows.proofs.Placing.{prepended}
use Rattle.rows.proofs.writing.put_figure.Given as goal

-- What is left has the digits before the place.
abbrev pub invariant-loop-place : goal.invariant-loop-place
invariant-loop-place l =
    prepended l.place l.left (drop l.place l.buffer) ≡ over (decimal l.n) l.initial.buffer
