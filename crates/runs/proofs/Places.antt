-- A part of a sheet after a write of the same part or of another.
use Rattle.std.proofs.Common.{◌≡◌, ℕ, ◌+◌, ◌-◌, ◌<◌, ◌≤◌, List, ◌++◌, length, get_or, take, drop, sym, refl, ap, ◌∙◌, arith}
use Rattle.std.proofs.lemmas.List.{length-append, length-take, length-drop, take_at, drop_at, same_lists, get_or-take, get_or-drop, get_or_append_left, get_or-append_right}
use Rattle.book.specs.Rates.{part, written}

module _ {A : Type 0} (sheet : List A) (a : ℕ) (values : List A) (fits : a + length values ≤ length sheet) where
  front : length (take a sheet) ≡ a
  front = simp length-take (omega arith)

  pub length-written : length (written sheet a values) ≡ length sheet
  length-written = simp (length-append, length-take, length-drop) (omega arith)

  -- The part that was written holds the values.
  pub part_same : part (written sheet a values) a (length values) ≡ values
  part_same =
      ap (take (length values)) (drop_at (take a sheet) (values ++ drop (a + length values) sheet) a front) ∙ take_at values (drop (a + length values) sheet) (length values) refl

  get_or-before : (i : ℕ) (d : A) → i < a → get_or (written sheet a values) i d ≡ get_or sheet i d
  get_or-before i d h =
      let inside : i < length (take a sheet) = omega (arith, front) in
      get_or_append_left (take a sheet) (values ++ drop (a + length values) sheet) d i inside ∙ get_or-take a sheet i d h

  get_or-behind : (i : ℕ) (d : A) → a + length values ≤ i → get_or (written sheet a values) i d ≡ get_or sheet i d
  get_or-behind i d h =
      let past : a ≤ i = omega arith in
      let more : length values ≤ i - a = omega arith in
      let back : a + length values + (i - a - length values) ≡ i = omega arith in
      get_or-append_right (take a sheet) (values ++ drop (a + length values) sheet) a i d front past ∙ get_or-append_right values (drop (a + length values) sheet) (length values) (i - a) d refl more ∙ get_or-drop (a + length values) sheet (i - a - length values) d ∙ ap (λ (k : ℕ). get_or sheet k d) back

  part_by : (b n : ℕ) → ((k : ℕ) (d : A) → k < n → get_or (written sheet a values) (b + k) d ≡ get_or sheet (b + k) d) → part (written sheet a values) b n ≡ part sheet b n
  part_by b n same =
      let long : length (part (written sheet a values) b n) ≡ length (part sheet b n) = simp (length-take, length-drop) (omega (arith, length-written)) in
      same_lists (part (written sheet a values) b n) (part sheet b n) long λ k d h.
      let l : k < n = omega (arith, simp (length-take, length-drop) at h) in
      get_or-take n (drop b (written sheet a values)) k d l ∙ get_or-drop b (written sheet a values) k d ∙ same k d l ∙ sym (get_or-drop b sheet k d) ∙ sym (get_or-take n (drop b sheet) k d l)

  -- A part that lies before or behind it is as it was.
  pub part_before : (b n : ℕ) → b + n ≤ a → part (written sheet a values) b n ≡ part sheet b n
  part_before b n h = part_by b n (λ k d l. get_or-before (b + k) d (omega arith))

  pub part_behind : (b n : ℕ) → a + length values ≤ b → part (written sheet a values) b n ≡ part sheet b n
  part_behind b n h = part_by b n (λ k d l. get_or-behind (b + k) d (omega arith))
