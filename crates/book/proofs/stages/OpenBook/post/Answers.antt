use Rattle.register.proofs.Change.{kept_same}
use Rattle.book.proofs.stages.OpenBook.post.Goals as goal

pub returns-then-is_ok-clause-kept : goal.returns-then-is_ok-clause-kept
returns-then-is_ok-clause-kept g c = kept_same c.args.lines.now

pub returns-then-not-has_room-clause-kept : goal.returns-then-not-has_room-clause-kept
returns-then-not-has_room-clause-kept g c = kept_same c.args.lines.now
