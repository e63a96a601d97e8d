use Rattle.std.proofs.Common.{◌≡◌, length, arith, rules}
use Rattle.lab_threads.proofs.BookCalls.{book_none, none_after}
use Rattle.lab_threads.proofs.book.Book.new.Goals as goal

pub invariant_of-result : goal.invariant_of-result
invariant_of-result c =
    let len : length c.loop.waiting.items ≡ c.args.count = omega (arith, c.loop.invariant.len) in
    rw c.new-2.ensures.items (book_none c.loop.waiting.items c.args.count c.in_ok-kernel.ensures.empty len c.loop.invariant.none)

pub loop-preserved : goal.loop-preserved
loop-preserved c = search (rules, none_after, c.loop.waiting.items, c.push.new.self.items, c.loop.invariant.none)
