-- A request whose words are all read.
use Rattle.std.proofs.Common.{◌≡◌, ℕ, zero, suc, ◌^◌, ◌<◌, true, List, length, get_or, is_ok, Ok, Err, decimal, string_bytes, String, Result, refl, ap, arith}
use Rattle.std.specs.declared.alloc.Global.{Global}
use Rattle.std.proofs.lemmas.Bool.{lt-ltb, ne_eqb}
use Rattle.std.proofs.lemmas.Fmt.{decimal_is_IsNumeral, decimal_nonempty, decimal_digit, digits_decimal, first_decimal}
use Rattle.std.proofs.lemmas.Str.Parse.{numerals_by_value, tells_all_ascii_digits}
use Rattle.divider.proofs.Asking.{passed}
use Rattle.divider.proofs.Parts.{total_le}
use Rattle.figures.specs.Figure.{figure}
use Rattle.sharing.specs.declared.fault.Fault.TheVariants.{UnknownRule, NoTotal, Word, Division, NoMemory}
use Rattle.sharing.specs.declared.fault.Fault.{Fault}
use Rattle.sharing.specs.declared.rule.Rule.{Rule}
use Rattle.sharing.specs.Request.{Asks, Answered}
use Rattle.sharing.specs.Table.{by_rule, table, Answers}

-- what is written of a number is a figure
written : (n : ℕ) → n < 2 ^ 64 → is_ok (figure (decimal n)) ≡ true
written zero h = ap (λ bs. is_ok (figure bs)) (decimal_digit 0 (omega arith))
written (suc n) h =
    let v = (decimal_is_IsNumeral (suc n) h).1 in
    let d = digits_decimal (numerals_by_value _ tells_all_ascii_digits) (suc n) h in
    let s = lt-ltb 0 (length (decimal (suc n))) (decimal_nonempty (suc n) h) in
    let f = first_decimal (suc n) (omega arith) h in
    let z = ne_eqb (get_or (decimal (suc n)) 0 0) 48 (λ e. omega arith) in
    let l = lt-ltb (suc n) (2 ^ 64) h in
    rw (s, z, d, v, l) refl

pub answered : (words : List (List ℕ)) (rule : Rule) (t : ℕ) (ws : List ℕ) (r : Result (String Global) Fault) → Answers t ws (λ text. string_bytes text ≡ table t ws (by_rule rule t ws)) r → Asks words rule t ws → Answered words r
answered words rule t ws (Ok text) a e = (rule, t, ws, (e, a.0, a.1))
answered words rule t ws (Err UnknownRule) a e = absurd a
answered words rule t ws (Err NoTotal) a e = absurd a
answered words rule t ws (Err (Word word x)) a e = absurd a
answered words rule t ws (Err (Division x)) a e = (rule, t, ws, (e, a))
answered words rule t ws (Err NoMemory) a e =
    let f = total_le t ws (passed t ws (length ws) a) in
    rw e (rule, (refl, (omega arith, written t (omega arith))))
