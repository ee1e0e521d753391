-- What an open book's customers keep along a run.
use Rattle.std.proofs.Common.{◌≡◌, ℕ, ◌+◌, ◌-◌, ◌<◌, ◌≤◌, true, false, ◌||◌, eqb, leb, List, [], ◌∷◌, length, Some, None, Ok, Err, sum_by, Option, Result, unwrap_or, sym, refl, ap, ◌∙◌, subst, arith}
use Rattle.std.specs.List as finite
use Rattle.std.specs.List.{AllByRecursion}
use Rattle.std.proofs.lemmas.List.Sums.{sum_by-cons}
use Rattle.std.proofs.lemmas.Bool.{cond_both, le-leb}
use Rattle.std.proofs.lemmas.Bool.Decides.{nat_tests}
use Rattle.register.specs.Records.{lookup, replaced}
use Rattle.register.proofs.Every.{all_replaced, all_lookup}
use Rattle.register.proofs.Lookups.{lookup_key, lookup-replaced_other, length-replaced}
use Rattle.register.proofs.Sums.{sum_by-replaced}
use Rattle.records.specs.declared.customer.Customer.{Customer}
use Rattle.book.specs.declared.parcel.Parcel.{Parcel}
use Rattle.book.specs.declared.refusal.Refusal.{Refusal}
use Rattle.book.specs.declared.refusal.Refusal.TheVariants.{Spoiled}
use Rattle.book.specs.declared.stages.OpenBook.{OpenBook}
use Rattle.book.specs.Answers.{number}
use Rattle.book.specs.Customers.{key, nobody, customer, stands, marked}
use Rattle.book.specs.Marks.{most_granted, most_mark, remarked, carried, home, moved, landed, grant_asks, lift_asks, land_asks, return_asks, Grants, Lifts, Lands, Returns}
use Rattle.runs.specs.History.{Event, granting, lifting, landing, returning, refusal, grant_of, grants}
use Rattle.runs.specs.Runs.{held, on_the_way}
use Rattle.runs.proofs.Asked.{some_value, told_ok, refused_told}

abbrev pub Small : Customer → Type 0
Small c = c.elected ≤ 30000

-- Marks held and on their way are the founding total and the accepted grants, and the grants stay within their limit.
pub record MarksKept (total : ℕ) (es : List Event) (granted : ℕ) (cs : List Customer) : Type 0 where
  pub balanced : held cs + on_the_way cs ≡ total + grants es
  pub counted : granted ≡ grants es
  pub limited : grants es ≤ 50000
  pub few : length cs ≤ 512
  pub small : AllByRecursion (λ c. c.elected ≤ 30000) cs

-- The two forms of a fact that holds of every element.
pub all_shelf : {X : Type 0} (P : X → Type 0) (xs : List X) → finite.AllByRecursion P xs → AllByRecursion P xs
all_shelf P [] h = tt
all_shelf P (x ∷ xs) h = (h.0, all_shelf P xs h.1)

pub all_finite : {X : Type 0} (P : X → Type 0) (xs : List X) → AllByRecursion P xs → finite.AllByRecursion P xs
all_finite P [] h = tt
all_finite P (x ∷ xs) h = (h.0, all_finite P xs h.1)

-- A change of the customers that takes so much from what they hold and have on its way, and adds so much.
record Moves (less more : ℕ) (cs cs' : List Customer) : Type 0 where
  sums : held cs' + on_the_way cs' + less ≡ held cs + on_the_way cs + more
  count : length cs' ≡ length cs
  small : AllByRecursion Small cs → AllByRecursion Small cs'

none_moves : {cs cs' : List Customer} → cs' ≡ cs → Moves 0 0 cs cs'
none_moves {cs} e = subst (λ (t : List Customer). Moves 0 0 cs t) (sym e) (record { sums = refl; count = refl; small = λ h. h })

then_moves : {a b c d : ℕ} {cs cs' cs'' : List Customer} → Moves a b cs cs' → Moves c d cs' cs'' → Moves (a + c) (b + d) cs cs''
then_moves f s = record { sums = omega arith; count = omega arith; small = λ h. s.small (f.small h) }

even : {a b : ℕ} {cs cs' : List Customer} → Moves a b cs cs' → a ≡ b → Moves 0 0 cs cs'
even s e = record { sums = omega arith; count = s.count; small = s.small }

remark_moves : (cs : List Customer) (c : Customer) (mark transit : ℕ) → lookup key (key c) cs ≡ Some c → Moves (c.mark + c.transit) (mark + transit) cs (remarked cs c mark transit)
remark_moves cs c mark transit at =
    let row = marked c mark transit in
    record {
      sums = omega (arith, sum_by-replaced key (λ x. x.mark) row c cs at, sum_by-replaced key (λ x. x.transit) row c cs at);
      count = length-replaced key row cs;
      small = λ h.
          let all = all_finite Small cs h in
          all_shelf Small (replaced key row cs) (all_replaced key Small row cs (all_lookup key Small (key c) c cs all at) all);
    }

-- A customer that is found stands under its own number.
stood : (cs : List Customer) (n : ℕ) → lookup key n cs ≡ Some (customer cs n) → lookup key (key (customer cs n)) cs ≡ Some (customer cs n)
stood cs n at = ap (λ (k : ℕ). lookup key k cs) (lookup_key key n (customer cs n) cs at) ∙ at

-- One with a load on its way stands.
carries : (o : Option Customer) → 0 < (unwrap_or o nobody).transit → o ≡ Some (unwrap_or o nobody)
carries None h = absurd (omega arith)
carries (Some c) h = refl

-- No customer has more of a figure than all together.
at_most : (f : Customer → ℕ) (cs : List Customer) (n : ℕ) → f nobody ≡ 0 → f (customer cs n) ≤ sum_by f cs
at_most f [] n zero = omega arith
at_most f (c ∷ cs) n zero =
    let more = sum_by-cons f c cs in
    cond_both (eqb (key c) n) (Some c) (lookup key n cs) (λ (o : Option Customer). f (unwrap_or o nobody) ≤ sum_by f (c ∷ cs))
    (λ _. omega arith) (λ _. omega (arith, at_most f cs n zero))

keep : {total granted granted' less more : ℕ} {es : List Event} {cs cs' : List Customer} (e : Event) → MarksKept total es granted cs → Moves less more cs cs' → more ≡ less + grant_of e → granted' ≡ granted + grant_of e → granted' ≤ 50000 → MarksKept total (e ∷ es) granted' cs'
keep {es = es} e k s gain g l =
    let sum = sum_by-cons grant_of e es in
    record { balanced = omega arith; counted = omega arith; limited = omega arith; few = omega arith; small = s.small k.small }

-- A call that grants nothing and leaves the customers as they were.
pub same_marks : {total granted : ℕ} {es : List Event} {cs : List Customer} (e : Event) → grant_of e ≡ 0 → MarksKept total es granted cs → MarksKept total (e ∷ es) granted cs
same_marks e none k = keep e k (none_moves refl) (omega arith) (omega arith) (omega arith)

-- One that grants nothing and only moves marks.
moved_marks : {total granted : ℕ} {es : List Event} {cs cs' : List Customer} (e : Event) → grant_of e ≡ 0 → Moves 0 0 cs cs' → MarksKept total es granted cs → MarksKept total (e ∷ es) granted cs'
moved_marks e none s k = keep e k s (omega arith) (omega arith) (omega arith)

-- The load is home again, or on another's mark.
home_moves : (cs : List Customer) (p : Parcel) → 0 < carried cs p → Moves 0 0 cs (home cs p)
home_moves cs p some =
    let c = customer cs p.giver in
    even (remark_moves cs c (c.mark + c.transit) 0 (stood cs p.giver (carries (lookup key p.giver cs) some))) (omega arith)

land_moves : (cs : List Customer) (p : Parcel) (receiver : ℕ) → 0 < carried cs p → stands cs receiver ≡ true → (receiver ≡ p.giver → ⊥) → Moves 0 0 cs (moved cs p receiver)
land_moves cs p receiver some stand apart =
    let g = customer cs p.giver in
    let c = customer cs receiver in
    let from : lookup key p.giver cs ≡ Some g = carries (lookup key p.giver cs) some in
    let to : lookup key receiver cs ≡ Some c = some_value (lookup key receiver cs) nobody stand in
    let giver : key g ≡ p.giver = lookup_key key p.giver g cs from in
    let taker : key c ≡ receiver = lookup_key key receiver c cs to in
    let row = marked g g.mark 0 in
    let others : key g ≡ key c → ⊥ = λ e. apart (sym taker ∙ sym e ∙ giver) in
    let there = lookup-replaced_other key row (key c) cs others ∙ stood cs receiver to in
    let off = remark_moves cs g g.mark 0 (stood cs p.giver from) in
    let on = remark_moves (replaced key row cs) c (c.mark + g.transit) c.transit there in
    even (then_moves off on) (omega arith)

-- Wherever a landing leaves the load.
landed_moves : (cs : List Customer) (p : Parcel) (receiver : ℕ) → Moves 0 0 cs (landed cs p receiver (land_asks cs p receiver))
landed_moves cs p receiver = by_asks (land_asks cs p receiver) refl
  where
    by_asks : (o : Option Refusal) → land_asks cs p receiver ≡ o → Moves 0 0 cs (landed cs p receiver o)
    by_asks None asks =
        let some : 0 < carried cs p = grind (arith, nat_tests) in
        let stand : stands cs receiver ≡ true = grind arith in
        let apart : receiver ≡ p.giver → ⊥ = grind (arith, nat_tests) in
        land_moves cs p receiver some stand apart
    by_asks (Some e) asks =
        cond_both (eqb (number e) 31 || eqb (number e) 32) (home cs p) cs (λ (t : List Customer). Moves 0 0 cs t)
        (λ sent. let some : 0 < carried cs p = grind (arith, nat_tests) in home_moves cs p some) (λ _. none_moves refl)

-- There is room for a load on the way on every mark.
room : {total granted : ℕ} {es : List Event} {cs : List Customer} → total ≤ 20000000 → MarksKept total es granted cs → (p : Parcel) (n : ℕ) → leb ((customer cs n).mark + carried cs p) most_mark ≡ true
room {cs = cs} t k p n = le-leb ((customer cs n).mark + carried cs p) most_mark (omega (arith, at_most (λ c. c.mark) cs n refl, at_most (λ c. c.transit) cs p.giver refl))

module _ {D : Type 0} {b b' : OpenBook D} {cs cs' : List Customer} {n load total : ℕ} {es : List Event} where
  pub grant_keeps : {r : Result (Unit {0}) Refusal} → Grants b cs n load r b' cs' → MarksKept total es b.granted cs → MarksKept total (granting n load r ∷ es) b'.granted cs'
  grant_keeps {r = Ok u} s k =
      let asks : grant_asks b.granted cs n load ≡ None = (told_ok u tt (grant_asks b.granted cs n load) s.answer).0 in
      let stand : stands cs n ≡ true = grind arith in
      let within : b.granted + load ≤ most_granted = grind (arith, nat_tests) in
      let c = customer cs n in
      rw (s.book, s.after) (keep (granting n load (Ok u)) k (remark_moves cs c (c.mark + load) c.transit (stood cs n (some_value (lookup key n cs) nobody stand))) (omega arith) refl within)
  grant_keeps {r = Err e} s k = rw (s.book, s.after) (same_marks (granting n load (Err e)) refl k)

  pub grant_unspoiled : {r : Result (Unit {0}) Refusal} → total ≤ 20000000 → Grants b cs n load r b' cs' → MarksKept total es b.granted cs → refusal (granting n load r) ≡ Some Spoiled → ⊥
  grant_unspoiled {r} t s k bad =
      let asks : grant_asks b.granted cs n load ≡ Some Spoiled = sym (refused_told r tt (grant_asks b.granted cs n load) s.answer) ∙ bad in
      let most = at_most (λ c. c.mark) cs n refl in
      let balanced = k.balanced in
      let counted = k.counted in
      grind (arith, nat_tests)

module _ {cs cs' : List Customer} {n load : ℕ} where
  pub lift_keeps : {total granted : ℕ} {es : List Event} {r : Result Parcel Refusal} → Lifts cs n load r cs' → MarksKept total es granted cs → MarksKept total (lifting n load r ∷ es) granted cs'
  lift_keeps {r = Ok p} s k =
      let asks : lift_asks cs n load ≡ None = (told_ok p (record { giver = n; spent = false }) (lift_asks cs n load) s.answer).0 in
      let c = customer cs n in
      let stand : stands cs n ≡ true = grind arith in
      let free : c.transit ≡ 0 = grind (arith, nat_tests) in
      let enough : load ≤ c.mark = grind (arith, nat_tests) in
      rw s.after (moved_marks (lifting n load (Ok p)) refl (even (remark_moves cs c (c.mark - load) load (stood cs n (some_value (lookup key n cs) nobody stand))) (omega arith)) k)
  lift_keeps {r = Err e} s k = rw s.after (same_marks (lifting n load (Err e)) refl k)

  pub lift_unspoiled : {r : Result Parcel Refusal} → Lifts cs n load r cs' → refusal (lifting n load r) ≡ Some Spoiled → ⊥
  lift_unspoiled {r} s bad =
      let asks : lift_asks cs n load ≡ Some Spoiled = sym (refused_told r (record { giver = n; spent = false }) (lift_asks cs n load) s.answer) ∙ bad in
      grind arith

module _ {total granted : ℕ} {es : List Event} {cs cs' : List Customer} {p : Parcel} where
  pub land_keeps : {receiver : ℕ} {r : Result (Unit {0}) Refusal} → Lands cs p receiver r cs' → MarksKept total es granted cs → MarksKept total (landing p receiver r ∷ es) granted cs'
  land_keeps {receiver} {r} s k = rw s.after (moved_marks (landing p receiver r) refl (landed_moves cs p receiver) k)

  pub land_unspoiled : {receiver : ℕ} {r : Result (Unit {0}) Refusal} → total ≤ 20000000 → Lands cs p receiver r cs' → MarksKept total es granted cs → refusal (landing p receiver r) ≡ Some Spoiled → ⊥
  land_unspoiled {receiver} {r} t s k bad =
      let asks : land_asks cs p receiver ≡ Some Spoiled = sym (refused_told r tt (land_asks cs p receiver) s.answer) ∙ bad in
      let at_home = room t k p p.giver in
      let there = room t k p receiver in
      grind arith

  pub return_keeps : {r : Result (Unit {0}) Refusal} → Returns cs p r cs' → MarksKept total es granted cs → MarksKept total (returning p r ∷ es) granted cs'
  return_keeps {r = Ok u} s k =
      let asks : return_asks cs p ≡ None = (told_ok u tt (return_asks cs p) s.answer).0 in
      let some : 0 < carried cs p = grind (arith, nat_tests) in
      rw s.after (moved_marks (returning p (Ok u)) refl (home_moves cs p some) k)
  return_keeps {r = Err e} s k = rw s.after (same_marks (returning p (Err e)) refl k)

  pub return_unspoiled : {r : Result (Unit {0}) Refusal} → total ≤ 20000000 → Returns cs p r cs' → MarksKept total es granted cs → refusal (returning p r) ≡ Some Spoiled → ⊥
  return_unspoiled {r} t s k bad =
      let asks : return_asks cs p ≡ Some Spoiled = sym (refused_told r tt (return_asks cs p) s.answer) ∙ bad in
      let at_home = room t k p p.giver in
      grind arith
