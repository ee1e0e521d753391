use Rattle.runs.proofs.Law.{always_sound}
use Rattle.runs.proofs.books_stay_sound.Goals as goal

pub returns : goal.returns
returns c = always_sound
