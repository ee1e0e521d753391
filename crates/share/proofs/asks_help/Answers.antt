use Rattle.std.proofs.Common.{◌≡◌, ◌<◌, ◌≤◌, List, [], ◌∷◌, map, length, get_or, codes, string_bytes, String, Global, sym, ap, ◌∙◌, rules, arith}
use Rattle.share.proofs.asks_help.Goals as goal

one_word : (words : List (String Global)) (word : String Global) → 1 ≤ length words → length words < 2 → word ≡ get_or words 0 word → map string_bytes words ≡ string_bytes word ∷ []
one_word [] word some few is = absurd (omega arith)
one_word (w ∷ []) word some few is = ap (λ v. string_bytes v ∷ []) (sym is)
one_word (w ∷ v ∷ others) word some few is = absurd (omega arith)

pub returns-in-len1 : goal.returns-in-len1
returns-in-len1 c =
    let one = one_word _ _ c.in-len1.len_at_least c.in-len1.len_below c.word-item.is in
    let same : string_bytes c.word-item.result ≡ codes "--help" = search rules in
    (λ _. one ∙ ap (λ w. w ∷ []) same, λ _. search rules)
