use Rattle.std.proofs.Common.{◌≡◌, subst, sym, ◌∙◌}
use Rattle.units.specs.Ranges.{kind}
use Rattle.units.specs.declared.ranges.Kind.TheVariants.{OtherPool}
use Rattle.rows.specs.Rows.{spelled}
use Rattle.lines.specs.Questions.{Fits}
use Rattle.lines.proofs.Fields.{told_figure, told_pool, told_other}
use Rattle.lines.proofs.asking.ask.Goals as goal
use Rattle.lines.proofs.asking.ask.Goals.{in-OtherPool, in_default}

pub returns-in-Figure : goal.returns-in-Figure
returns-in-Figure c =
    let κ = kind c.args.letter c.args.place in
    rw (c.answer.ensures, c.in_range.ensures, c.in-Figure.is) (told_figure κ c.args.place c.in-Figure.n (spelled c.args.before) (subst (Fits κ) c.in-Figure.is c.requires.0))

pub returns-in-Letter : goal.returns-in-Letter
returns-in-Letter c =
    let κ = kind c.args.letter c.args.place in
    let other : κ ≡ OtherPool =
    elim c.match-matches.branch as (λ _. κ ≡ OtherPool) [
      | in-OtherPool w ↦ sym c.kind_at.ensures ∙ w.in-OtherPool.is
      | in_default w ↦ absurd (let t = c.if-matches.true in let f = w.matches-is in cc)
    ] in
    rw (c.answer-in-Letter.ensures, c.is_other_pool.ensures, c.in-Letter.is) (told_other κ c.args.place c.in-Letter.pool c.args.before other c.requires.1)

pub returns-in-Letter-2 : goal.returns-in-Letter-2
returns-in-Letter-2 c =
    let κ = kind c.args.letter c.args.place in
    let first : κ ≡ OtherPool → ⊥ =
    elim c.match-matches.branch as (λ _. κ ≡ OtherPool → ⊥) [
      | in-OtherPool w ↦ absurd (let t = c.if-matches.false in let f = w.matches-is in cc)
      | in_default w ↦ (λ e. w.in_default.not-OtherPool (c.kind_at.ensures ∙ e))
    ] in
    rw (c.answer-in-Letter-2.ensures, c.is_pool.ensures, c.in-Letter-2.is) (told_pool κ c.args.place c.in-Letter-2.pool (spelled c.args.before) (subst (Fits κ) c.in-Letter-2.is c.requires.0) first)
