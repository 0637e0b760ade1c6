-- `answer::same` meets its contract. Assumes nothing.
use Rattle.answer.proofs.Names.{same-is}
use Rattle.answer.proofs.same.Goals as goal

pub returns : goal.returns
returns c = rw (c.eq.ensures, same-is c.args.a.now c.args.b.now)
