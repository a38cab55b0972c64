-- What is asked of the engine, and the operation that it is of a transaction. Begin and visit take none.
use Rattle.model.specs.Types.{Transaction, Request}
use Rattle.types.specs.declared.Request.TheVariants as asked
use Rattle.model.specs.Results.{begin, read, second, put, advance, abort, visit}
use Rattle.model.specs.Operations.{Operation, once, close}

unfoldable pub operation_of : Request → Transaction → Operation
operation_of (asked.Begin b) t = once (begin b)
operation_of (asked.Read k now) t = once (read t k now)
operation_of (asked.Second k now c) t = once (second t k now c)
operation_of (asked.Put k c) t = once (put t k c)
operation_of (asked.Advance now) t = once (advance t now)
operation_of asked.Abort t = once (abort t)
operation_of (asked.Visit k now) t = once (visit k now)
operation_of (asked.Close now limit) t = close t now limit
