use Rattle.std.proofs.Common.{◌≡◌, List, ℕ, ◌++◌, drop}
use Rattle.rows.specs.Rows.{row}
use Rattle.rows.proofs.Joining.{rest}
use Rattle.rows.proofs.Placing.{Written}
use Rattle.rows.proofs.writing.write.Given as goal

-- Some bytes of the row are written, and the fields from here on have those behind them.
abbrev pub invariant-loop-i : goal.invariant-loop-i
invariant-loop-i l =
    (done : List ℕ) × Written done l.initial.buffer l.buffer l.at × (done ++ rest l.i (drop l.i l.fields) l.end ≡ row l.fields l.end)
