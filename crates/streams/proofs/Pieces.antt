-- A line that is gathered before it is written.
use Rattle.std.proofs.Common.{◌≡◌, ℕ, List, [], ◌∷◌, ◌++◌, None, Some, Ok, Err, Option, Result, OnOk, IfSome, sym, ap, ◌∙◌, subst}
use Rattle.std.proofs.lemmas.List.{append-nil, append_assoc}
use Rattle.std.specs.List.{FoldsTo, concat}
use Rattle.std.specs.Fmt.{WritesText}
use Rattle.std.specs.declared.fmt.InlineText.{InlineText}
use Rattle.std.specs.Fmt.InlineText.{inline_text, IsIntact, AppendsIfIntact}
use Rattle.std.specs.Io.KnownBytes.{Appends}

module _ {n : ℕ} where
  -- pieces that are gathered one after the other stand there as one
  gathered : (s : InlineText n) (parts : List (List ℕ)) (t : InlineText n) → FoldsTo AppendsIfIntact s parts t → AppendsIfIntact s (concat parts) t
  gathered s [] t same intact = (subst IsIntact same intact, ap inline_text (sym same) ∙ sym (append-nil (inline_text s)))
  gathered s (x ∷ parts) t calls intact =
      let first = calls.1 intact in
      let rest = gathered calls.0 parts t calls.2 first.0 in
      (rest.0, rest.1 ∙ ap (λ l. l ++ concat parts) first.1 ∙ append_assoc (inline_text s) x (concat parts))

  -- what was gathered from nothing on is the text: where it is written, the text is
  pub written_whole : {A E : Type 0} (s t : InlineText n) (o held held' : Option (List ℕ)) (r : Result A E) → inline_text s ≡ [] → IsIntact s → WritesText AppendsIfIntact s o t → OnOk r (Appends held held' (inline_text t)) → OnOk r (IfSome o (Appends held held'))
  written_whole s t o held held' (Err e) empty intact wrote appended = tt
  written_whole s t None held held' (Ok x) empty intact wrote appended = tt
  written_whole s t (Some bs) held held' (Ok x) empty intact wrote appended =
      subst (Appends held held') ((gathered s wrote.parts t wrote.calls intact).1 ∙ ap (λ l. l ++ concat wrote.parts) empty ∙ wrote.whole) appended
