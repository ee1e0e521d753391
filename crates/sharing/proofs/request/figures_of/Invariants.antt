use Rattle.std.proofs.Common.{◌≡◌, ℕ, ◌<◌, true, [], map, get_or, take, is_ok, vec_items, string_bytes, decimal}
use Rattle.figures.specs.Figure.{figure}
use Rattle.sharing.proofs.request.figures_of.Given as goal

abbrev pub invariant-loop-i : goal.invariant-loop-i
invariant-loop-i l = (map string_bytes (take l.i l.words) ≡ map decimal (vec_items l.found)) × ((k : ℕ) → k < l.i → is_ok (figure (get_or (map string_bytes l.words) k [])) ≡ true)
