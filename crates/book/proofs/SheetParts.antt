-- Numbers written into the first places of a sheet, and divisions over them.
use Rattle.std.proofs.Common.{◌≡◌, ℕ, ◌+◌, List, ◌++◌, length, take, drop, ℤ, ap, ◌∙◌}
use borrow.Rule.Slice.PartMut.{put_mid}
use Rattle.std.proofs.lemmas.List.{drop-drop, take_at}
use Rattle.book.specs.Rates.{on_top, written}

-- the numbers on top of a sheet
pub front_on_top : (ns s : List ℕ) (n : ℕ) → length ns ≡ n → take n (on_top ns s) ≡ ns
front_on_top ns s n e = take_at ns (drop (length ns) s) n e

-- a part of a sheet, filled with other values
pub part_written : (a k : ℕ) (xs ys vs : List ℤ) → ys ≡ vs → k ≡ length vs → put_mid a k xs ys ≡ written xs a vs
part_written a k xs ys vs e l =
    ap (λ (t : List ℤ). take a xs ++ (t ++ drop k (drop a xs))) e
    ∙ ap (λ (t : List ℤ). take a xs ++ (vs ++ t)) (drop-drop k a xs ∙ ap (λ (n : ℕ). drop (a + n) xs) l)
