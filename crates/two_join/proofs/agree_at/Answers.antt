-- Ten bytes of both keys, ten more, and the last byte, as the definition compares them.
use Rattle.two_join.specs.Agrees.{line-agrees}
use Rattle.two_join.proofs.agree_at.Goals as goal

pub returns : goal.returns
returns c =
    let a = c.args in
    rw (c.ten_equal.ensures, c.ten_equal-2.ensures) (line-agrees a.plain.now a.book.now a.i c.requires.plain_bytes_in_bounds c.requires.bookkeeping_bytes_in_bounds)
