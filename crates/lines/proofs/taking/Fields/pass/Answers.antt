use Rattle.std.proofs.Common.{◌≡◌, ◌+◌, ◌-◌, arith, ap, ◌∙◌, drop}
use Rattle.lines.specs.Reading.{all}
use Rattle.lines.proofs.Walking.{clean_next}
use Rattle.lines.proofs.taking.Fields.pass.Goals as goal

pub invariant_of-self : goal.invariant_of-self
invariant_of-self c =
    let s = c.args.self.now in
    let k : s.place ≡ s.place + 1 - 1 = omega arith in
    record {
      known = s.known;
      begun = omega arith;
      within = omega arith;
      left = c.requires.rest ∙ ap (λ j. drop j (all s)) k;
      clean = clean_next s.letter (all s) s.place s.begun s.clean c.requires.passes;
    }
