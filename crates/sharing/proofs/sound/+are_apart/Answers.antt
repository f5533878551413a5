-- The others are at other places than the first, and at distinct ones.
use Rattle.sharing.proofs.Places.{taken, others}
use Rattle.sharing.proofs.sound.+are_apart.Goals as goal

pub returns-then-is_free : goal.returns-then-is_free
returns-then-is_free t c = others c.args.shares.now c.in-Some.first.now c.in-Some.rest.now (c.in-Some.ensures).cases.0 c.is_free.result c.is_free.ensures c.if-is_free.true c.are_apart.result c.are_apart.ensures

pub returns-else-is_free : goal.returns-else-is_free
returns-else-is_free t c = taken c.args.shares.now c.in-Some.first.now c.in-Some.rest.now (c.in-Some.ensures).cases.0 c.is_free.result c.is_free.ensures c.if-is_free.false
