use Rattle.std.proofs.Common.{refl, subst, rules}
use Rattle.std.specs.Io.KnownBytes.{Appends}
use Rattle.streams.specs.Written.{AppendsFront}
use Rattle.share.specs.Shares.{helped, not_helped, shared, not_written, refused, not_reported}
use Rattle.share.proofs.share.Goals as goal

pub returns-in-Ok : goal.returns-in-Ok
returns-in-Ok g c = helped (search rules) (search rules) refl

pub returns-in-Err : goal.returns-in-Err
returns-in-Err g c = not_helped (search rules) (search rules)

pub returns-in-Ok-write_all : goal.returns-in-Ok-write_all
returns-in-Ok-write_all g c = shared c.in-Ok-answer.table (search rules) c.in-Ok-answer.ensures (subst (Appends _ _) c.as_bytes.ensures.value c.in-Ok-write_all.ensures.whole) (search rules) refl

pub returns-in-Ok-answer : goal.returns-in-Ok-answer
returns-in-Ok-answer g c = not_written c.in-Ok-answer.table (search rules) c.in-Ok-answer.ensures (subst (AppendsFront _ _) c.as_bytes.ensures.value c.in-Err-write_all.ensures.front) (search rules) refl

pub returns-in-Ok-said : goal.returns-in-Ok-said
returns-in-Ok-said g c = refused c.in-Err-answer.fault (search rules) c.in-Err-answer.ensures (search rules) refl

pub returns : goal.returns
returns g c = not_reported c.in-Err-answer.fault (search rules) c.in-Err-answer.ensures (search rules)
