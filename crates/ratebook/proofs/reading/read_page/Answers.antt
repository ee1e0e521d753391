use Rattle.std.proofs.Common.{◌≡◌, ℕ, ◌+◌, ◌≤◌, List, ◌++◌, rules, length, take, sym, ap, ◌∙◌, subst, length-take-le}
use Rattle.std.specs.Io.KnownBytes.{Consumes}
use Rattle.std.proofs.KnownBytes.{Consumes-trans}
use borrow.Rule.Slice.PartMut.{put_mid, post_of}
use lib.Seq.{take-append-add, take-append-le}
use Rattle.ratebook.proofs.reading.read_page.Goals as goal

-- What stands in a buffer once its part from a place on begins with n more bytes.
read_more : (a k n : ℕ) (xs ys : List ℕ) → a ≤ length xs → n ≤ length ys → take (a + n) (put_mid a k xs ys) ≡ take a xs ++ take n ys
read_more a k n xs ys within fits =
    ap (λ m. take (m + n) (put_mid a k xs ys)) (sym (length-take-le a xs within))
    ∙ take-append-add (take a xs) (ys ++ post_of a k xs) n
    ∙ ap (λ t. take a xs ++ t) (take-append-le n ys (post_of a k xs) fits)

pub loop-at-preserved : goal.loop-at-preserved
loop-at-preserved g c =
    let more = read_more c.loop-at.at _ c.in_ok-count.count c.loop-at.buffer c.read.new.buffer (search rules) c.in_ok-count.ensures.bound.0 in (
      search rules,
      search rules,
      subst (Consumes _ _) (sym more) (Consumes-trans _ _ _ _ _ c.loop-at.invariant.2 c.in_ok-count.ensures.bytes.0),
    )
