-- A register after a change, from what its memory and its count are then.
use Rattle.std.proofs.Common.{◌≡◌, ℕ, ◌+◌, ◌-◌, ◌<◌, ◌≤◌, min, Bool, false, eqb, List, ◌++◌, length, get_or, set, take, drop, is_some, is_ok, Some, None, Ok, Err, Option, Result, sym, refl, ap, ◌∙◌, arith}
use Rattle.std.proofs.lemmas.List.{length-append, length-drop, length-take, length-set, get_or-take, take_at, drop_at, take-append-drop}
use Rattle.std.proofs.lemmas.Bool.{eqb-false}
use Rattle.std.specs.List.{insert, remove}
use Rattle.register.proofs.Laid.{put_laid}
use Rattle.register.proofs.Found.{inserted-place_for, removed-place_of, lookup-place_of}
use Rattle.register.proofs.Lookups.{length-added, length_without}
use Rattle.register.specs.Records.{lookup, added, without, place_of, place_for}
use Rattle.register.specs.Records.{usable}
use Rattle.register.specs.Register.{memory, room, count, records, laid, Sought, Kept}
use Rattle.register.specs.declared.Keyed.{Ghosts}
use Rattle.register.specs.declared.Register.{Register}
use Rattle.register.specs.declared.refusal.Refusal.{Refusal}

module _ {R : Type 0} where
  -- a record is there exactly where the answer is Ok
  pub sought_ok : (o : Option R) (r : Result R Refusal) → Sought o r → is_some o ≡ is_ok r
  sought_ok o (Ok x) h = ap is_some h
  sought_ok o (Err e) h = ap is_some h.0

  pub none_there : (o : Option R) → is_some o ≡ false → o ≡ None
  none_there None h = refl
  none_there (Some x) h = grind arith

module _ {R : Type 0} {k : Ghosts R} where
  pub length-records : (reg : Register R k) → length (records reg) ≡ count reg
  length-records reg = omega (arith, length-take (count reg) (memory reg))

  pub place_free : (reg : Register R k) (full : Bool) → full ≡ eqb (length (records reg)) (room reg) → full ≡ false → length (records reg) < room reg
  place_free reg full is-full left =
      let other = eqb-false (length (records reg)) (room reg) (sym is-full ∙ left) in
      omega (arith, length-records reg)

  -- what stands at a place of the memory stands there among the records
  pub read_record : (reg : Register R k) (i : ℕ) (x : R) → i < length (records reg) → x ≡ get_or (memory reg) i x → x ≡ get_or (records reg) i x
  read_record reg i x lt is =
      let below : i < count reg = omega (arith, length-records reg) in
      is ∙ sym (get_or-take (count reg) (memory reg) i x below)

  pub laid_records : (reg : Register R k) → laid (records reg) (memory reg) ≡ memory reg
  laid_records reg =
      ap (λ (n : ℕ). records reg ++ drop n (memory reg)) (length-records reg) ∙ take-append-drop (count reg) (memory reg)

  pub kept_same : (reg : Register R k) → Kept reg reg
  kept_same reg = record { rest = sym (laid_records reg); size = refl; lender = refl }

  -- one change after another, of as many records
  pub kept_then : (a b c : Register R k) → length (records c) ≡ length (records b) → Kept a b → Kept b c → Kept a c
  kept_then a b c e p q =
      record {
        rest = q.rest ∙ ap (λ (t : List R). records c ++ t) (ap (drop (length (records c))) p.rest ∙ drop_at (records b) (drop (length (records b)) (memory a)) (length (records c)) (sym e) ∙ ap (λ (n : ℕ). drop n (memory a)) (sym e));
        size = q.size ∙ p.size;
        lender = q.lender ∙ p.lender;
      }

  -- one record put over another
  pub put_over : (before : Register R k) (at : ℕ) (row : R) (ys : List R) → at < length (records before) → set (records before) at row ≡ ys
      → (set (memory before) at row ≡ laid ys (memory before)) × (count before ≡ length ys)
  put_over before at row ys lt is =
      let long = length-records before in
      let below : at < count before = omega arith in
      let within : count before ≤ length (memory before) = omega arith in (
        put_laid (memory before) (count before) at row within below ∙ ap (λ (t : List R). laid t (memory before)) is,
        sym (ap length (sym is) ∙ length-set (records before) at row ∙ long),
      )

  -- the memory and the count once the records are ys
  module _ (before : Register R k) (mem : List R) (standing : ℕ) (ys : List R) (new : mem ≡ laid ys (memory before)) (stand : min standing (room before) ≡ length ys) where
    pub size_changed : length mem ≡ length (memory before)
    size_changed =
        let parts : length (laid ys (memory before)) ≡ length (memory before) = omega (arith, length-append ys (drop (length ys) (memory before)), length-drop (length ys) (memory before)) in
        ap length new ∙ parts

    pub records_changed : take (min standing (usable mem)) mem ≡ ys
    records_changed =
        let n : min standing (usable mem) ≡ length ys = omega (arith, size_changed) in
        ap (λ (k : ℕ). take k mem) n ∙ ap (take (length ys)) new ∙ take_at ys (drop (length ys) (memory before)) (length ys) refl

  pub kept_changed : (before after : Register R k) (ys : List R) → memory after ≡ laid ys (memory before) → min after.standing (room before) ≡ length ys → after.places.ghost_name ≡ before.places.ghost_name → Kept before after
  kept_changed before after ys new stand lender =
      let are = records_changed before (memory after) after.standing ys new stand in
      record {
        rest = new ∙ ap (λ (t : List R). laid t (memory before)) (sym are);
        size = size_changed before (memory after) after.standing ys new stand;
        lender = lender;
      }

  -- the records once a register's memory and count have changed
  module _ (key : R → ℕ) (before : Register R k) (standing : ℕ) (stand : standing ≡ length (records before)) (mem : List R) where
    pub put_in : (row : R) (at : ℕ) → standing < room before → (at ≡ place_for key (key row) (records before)) × (at ≤ length (records before)) × (lookup key (key row) (records before) ≡ None) → mem ≡ laid (insert (take standing (memory before)) at row) (memory before)
        → take (min (standing + 1) (usable mem)) mem ≡ added key row (records before)
    put_in row at free gap new =
        let long = length-records before in
        let is_in : insert (take standing (memory before)) at row ≡ added key row (records before) = rw (stand, long, gap.0) (inserted-place_for key row (records before)) in
        records_changed before mem (standing + 1) (added key row (records before)) (rw (← is_in) new) (omega (arith, length-added key row (records before)))

    pub put_out : (n at : ℕ) (row : R) → (at ≡ place_of key n (records before)) × (at < length (records before)) → row ≡ get_or (memory before) at row → mem ≡ laid (remove (take standing (memory before)) at) (memory before)
        → (lookup key n (records before) ≡ Some row) × (take (min (standing - 1) (usable mem)) mem ≡ without key n (records before))
    put_out n at row there is new =
        let long = length-records before in
        let found = lookup-place_of key n at row (records before) there.0 there.1 (read_record before at row there.1 is) in
        let is_out : remove (take standing (memory before)) at ≡ without key n (records before) = rw (stand, long, there.0) (removed-place_of key n (records before)) in
        (found, records_changed before mem (standing - 1) (without key n (records before)) (rw (← is_out) new) (omega (arith, length_without key n row (records before) found)))
