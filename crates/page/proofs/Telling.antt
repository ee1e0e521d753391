-- Answers whose refusals are told in another way.
use Rattle.std.proofs.Common.{◌≡◌, ℕ, Ok, Err, Result, sym, refl, ap, subst, arith}
use Rattle.std.specs.Result.{MatchResult, IsErrAnd}
use Rattle.std.proofs.lemmas.Result.{err_from_is_err_and}

pub still_ok : (X E F : Type 0) (r : Result X E) (x : X) → MatchResult r (λ y. ◌≡◌ {A = Result X F} (Ok x) (Ok y)) (λ e. ⊥) → r ≡ Ok x
still_ok X E F (Ok y) x is = let same : x ≡ y = cc in ap Ok (sym same)
still_ok X E F (Err e) x is = absurd is

pub told_as : (X E F : Type 0) (r : Result X E) (f : F) (Q : E → Type 0) → MatchResult r (λ y. ◌≡◌ {A = Result X F} (Err f) (Ok y)) Q → (e : E) × (r ≡ Err e) × Q e
told_as X E F (Ok y) f Q is = let z : ◌≡◌ {A = ℕ} 0 1 = cc in absurd (omega arith)
told_as X E F (Err e) f Q is = (e, refl, is)

pub either_way : (X E F : Type 0) (P : Result X F → Type 0) (r : Result X E) (told : Result X F) (Q : E → F → Type 0) → MatchResult r (λ x. told ≡ Ok x) (λ e. IsErrAnd told (Q e)) → ((x : X) → r ≡ Ok x → P (Ok x)) → ((e : E) (f : F) → r ≡ Err e → Q e f → P (Err f)) → P told
either_way X E F P (Ok x) told Q is ok err = subst P (sym is) (ok x refl)
either_way X E F P (Err e) told Q is ok err =
    let p = err_from_is_err_and told is in
    subst P (sym p.1) (err e p.0 refl p.2)
