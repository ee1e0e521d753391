use Rattle.std.proofs.Common.{◌≡◌, ℕ, ◌+◌, ◌-◌, List, ◌++◌, rules, length, take, drop, sym, ap, ◌∙◌, subst}
use Rattle.std.proofs.Math.Seq.{take-add}
use Rattle.std.proofs.lemmas.List.{take_rest}
use Rattle.std.specs.Io.KnownBytes.{Appends}
use Rattle.std.proofs.KnownBytes.{Appends-trans, Appends-kept}
use Rattle.streams.proofs.sink.AnySink.write_all.Goals as goal
use Rattle.streams.proofs.sink.AnySink.write_all.Goals.{in-Ok, in-Err}

-- The front of some bytes, and n more of the rest.
write_more : (a n : ℕ) (bs : List ℕ) → take a bs ++ take n (take (length bs - a) (drop a bs)) ≡ take (a + n) bs
write_more a n bs = ap (λ l. take a bs ++ take n l) (take_rest bs a) ∙ sym (take-add a n bs)

pub loop-preserved : goal.loop-preserved
loop-preserved g c =
    let bs = c.args.bytes.now in
    elim c.match-write.branch [
      | in-Ok w ↦ (search rules, subst (Appends _ _) (write_more c.loop.at w.in-Ok.count bs ∙ ap (λ k. take k bs) (sym w.at-is)) (Appends-trans _ _ _ _ _ c.loop.invariant.1 w.in-Ok.ensures.bytes))
      | in-Err w ↦ (search rules, subst (Appends _ _) (ap (λ k. take k bs) (sym w.at-is)) (Appends-kept _ _ _ _ c.loop.invariant.1 w.in-Err.ensures.bytes))
    ]
