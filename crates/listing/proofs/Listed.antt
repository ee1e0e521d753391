-- Rows that are written.
use Rattle.std.proofs.Common.{◌≡◌, ℕ, ◌*◌, ◌^◌, ◌<◌, ◌≤◌, true, false, cond, leb, List, [], ◌∷◌, ◌++◌, length, get_or, drop, ℤ, is_some, is_ok, Ok, Err, decimal, Option, Result, ap, ◌∙◌, ⊎_elim, subst, arith}
use Rattle.std.specs.Option.{ok_or}
use Rattle.std.specs.Result.{MatchResult}
use Rattle.std.specs.Fmt.{signed_decimal}
use Rattle.std.specs.List.{AllByRecursion}
use Rattle.std.proofs.lemmas.List.{get_or_default, length-append}
use Rattle.std.proofs.lemmas.Fmt.{length-decimal-le}
use Rattle.std.proofs.lemmas.Bool.{cases_Bool, and_parts, leb-true}
use Rattle.register.specs.Register.{Placed}
use Rattle.register.specs.declared.refusal.Refusal as register
use Rattle.register.specs.Records.{lookup, place_of}
use Rattle.register.proofs.Found.{lookup-place_of}
use Rattle.records.specs.declared.customer.Customer.{Customer}
use Rattle.records.specs.declared.pool.Pool.TheVariants.{Composite, NonSlice, Slice, Tier2}
use Rattle.records.specs.Figures.{above_rhwm}
use Rattle.book.specs.Customers.{key, nobody}
use Rattle.lines.specs.Questions.{a_name}
use Rattle.rows.specs.Rows as rows
use Rattle.listing.specs.declared.refusal.Refusal.{Refusal}
use Rattle.listing.specs.declared.refusal.Refusal.TheVariants.{Missing, ShortSheet, NotAName, NoRoom}
use Rattle.listing.specs.Listing.{ended, charge_at, row_at, longest, Short}

-- a row is written where the buffer holds it
pub row_written : (row written buffer : List ℕ) (o : Option ℕ) (r : Result ℕ Refusal) (buffer' : List ℕ) → written ≡ row → rows.Writes written buffer o buffer' → r ≡ ok_or o NoRoom → (r ≡ cond (leb (length row) (length buffer)) (Ok (length row)) (Err NoRoom)) × (buffer' ≡ cond (is_ok r) (row ++ drop (length row) buffer) buffer)
row_written row written buffer o r buffer' is by e =
    let w = subst (λ t. rows.Writes t buffer o buffer') is by in
    ⊎_elim
    (λ (t : leb (length row) (length buffer) ≡ true).
    let answer : r ≡ Ok (length row) = e ∙ ap (λ o. ok_or o NoRoom) (rw t at w.answer) in
    (rw t answer, rw answer (rw t at w.after)))
    (λ (t : leb (length row) (length buffer) ≡ false).
    let answer : r ≡ Err NoRoom = e ∙ ap (λ o. ok_or o NoRoom) (rw t at w.answer) in
    (rw t answer, rw answer (rw t at w.after)))
    (cases_Bool (leb (length row) (length buffer)))

-- a customer that was found stands at its place
pub placed : (n at : ℕ) (xs : List Customer) (r : Result ℕ register.Refusal) → MatchResult r (λ x. ◌≡◌ {A = Result ℕ Refusal} (Ok at) (Ok x)) (λ e. ⊥) → Placed key n xs r → (at ≡ place_of key n xs) × (is_some (lookup key n xs) ≡ true)
placed n at xs (Ok x) is p =
    let same : at ≡ x = cc in
    let here = lookup-place_of key n x (get_or xs x nobody) xs p.0 p.1 (get_or_default xs x nobody (get_or xs x nobody) p.1) in
    (same ∙ p.0, ap is_some here)
placed n at xs (Err e) is p = absurd is

-- the row of the customer at a place
pub row_is : (rs cs : List Customer) (charges : List ℤ) (at k : ℕ) (name : List ℕ) (n m r a : ℕ) (c₁ c₂ c₃ c₄ : List ℕ) → rs ≡ cs → at ≡ k → n ≡ (get_or rs at nobody).number → m ≡ (get_or rs at nobody).mark → r ≡ (get_or rs at nobody).rhwm → a ≡ above_rhwm (get_or rs at nobody) → c₁ ≡ signed_decimal (charge_at charges (length rs) at Composite) → c₂ ≡ signed_decimal (charge_at charges (length rs) at NonSlice) → c₃ ≡ signed_decimal (charge_at charges (length rs) at Slice) → c₄ ≡ signed_decimal (charge_at charges (length rs) at Tier2) → ended (decimal n ∷ name ∷ decimal m ∷ decimal r ∷ decimal a ∷ c₁ ∷ c₂ ∷ c₃ ∷ c₄ ∷ []) ≡ row_at cs charges k name
row_is rs cs charges at k name n m r a c₁ c₂ c₃ c₄ same place en em er ea e₁ e₂ e₃ e₄ =
    (λ i. ended (decimal (en i) ∷ name ∷ decimal (em i) ∷ decimal (er i) ∷ decimal (ea i) ∷ e₁ i ∷ e₂ i ∷ e₃ i ∷ e₄ i ∷ []))
    ∙ (λ i. row_at (same i) charges (place i) name)

-- a figure of 64 bits, with or without a minus
pub figure_few : (n : ℕ) → n < 2 ^ 64 → length (decimal n) ≤ 20
figure_few n h = length-decimal-le 20 n (omega arith) (omega arith) h

pub name_few : (f : List ℕ) → a_name f ≡ true → length f ≤ 24
name_few f h = leb-true (length f) 24 (and_parts _ _ (and_parts _ _ h).0).1

trailing_few : (fs : List (List ℕ)) → AllByRecursion (λ f. length f ≤ 24) fs → length (rows.trailing fs) ≤ 25 * length fs
trailing_few [] all = omega arith
trailing_few (f ∷ fs) all = omega (arith, length-append f (rows.trailing fs), trailing_few fs all.1, all.0)

-- at most nine fields, with what parts and ends them
pub row_few : (f : List ℕ) (fs : List (List ℕ)) → length fs ≤ 8 → AllByRecursion (λ f. length f ≤ 24) (f ∷ fs) → length (ended (f ∷ fs)) ≤ longest
row_few f fs few all =
    omega (arith, length-append (rows.joined (f ∷ fs)) (10 ∷ []), length-append f (rows.trailing fs), trailing_few fs all.1, all.0)

pub short_is : (row : List ℕ) (r : Result ℕ Refusal) → length row ≤ longest → Short row r
short_is row (Ok n) h = h
short_is row (Err Missing) h = tt
short_is row (Err ShortSheet) h = tt
short_is row (Err NotAName) h = tt
short_is row (Err NoRoom) h = h
