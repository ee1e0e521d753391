-- What an answer says of the questions of a call.
use Rattle.std.proofs.Common.{◌≡◌, ℕ, Bool, true, false, cond, is_some, Some, None, Ok, Err, Option, Result, unwrap_or, sym, refl, ap, arith}
use Rattle.std.specs.Result.{result_err}
use Rattle.book.specs.declared.refusal.Refusal.{Refusal}
use Rattle.book.specs.Answers.{told}
use Rattle.book.specs.Rates.{staged}

pub some_value : {A : Type 0} (o : Option A) (d : A) → is_some o ≡ true → o ≡ Some (unwrap_or o d)
some_value None d h = grind arith
some_value (Some x) d h = refl

-- Where no question failed, the first was answered with yes.
pub first_yes : (b : Bool) (o : Option Refusal) (e : Refusal) → cond b o (Some e) ≡ None → (b ≡ true) × (o ≡ None)
first_yes true o e h = (refl, h)
first_yes false o e h = absurd (let z : ◌≡◌ {A = ℕ} 0 1 = cc in omega arith)

module _ {X : Type 0} where
  pub told_ok : (x y : X) (o : Option Refusal) → Ok x ≡ told y o → (o ≡ None) × (x ≡ y)
  told_ok x y None h = (refl, (cc))
  told_ok x y (Some e) h = absurd (let z : ◌≡◌ {A = ℕ} 0 1 = cc in omega arith)

  pub refused_told : (r : Result X Refusal) (x : X) (o : Option Refusal) → r ≡ told x o → result_err r ≡ o
  refused_told r x None h = ap result_err h
  refused_told r x (Some e) h = ap result_err h

module _ {A B : Type 0} where
  pub staged_ok : (a : A) (b x : B) (o : Option Refusal) → Ok x ≡ staged a b o → (o ≡ None) × (x ≡ b)
  staged_ok a b x None h = (refl, (cc))
  staged_ok a b x (Some e) h = absurd (let z : ◌≡◌ {A = ℕ} 0 1 = cc in omega arith)

  pub staged_err : (a x : A) (b : B) (e : Refusal) (o : Option Refusal) → Err (x, e) ≡ staged a b o → (o ≡ Some e) × (x ≡ a)
  staged_err a x b e None h = absurd (let z : ◌≡◌ {A = ℕ} 0 1 = cc in omega arith)
  staged_err a x b e (Some d) h =
      let same : (x, e) ≡ (a, d) = cc in
      (ap (λ (p : A × Refusal). Some p.1) (sym same), ap (λ (p : A × Refusal). p.0) same)

-- The same, by the part that is wanted.
pub accepted : {X : Type 0} (x y : X) (o : Option Refusal) → Ok y ≡ told x o → o ≡ None
accepted x y o e = (told_ok y x o e).0

pub denied : {X : Type 0} (x : X) (d : Refusal) (o : Option Refusal) → Err d ≡ told x o → o ≡ Some d
denied x d o e = sym (refused_told (Err d) x o e)
