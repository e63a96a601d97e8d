use Rattle.std.proofs.Common.{rules, ap}
use Rattle.ipc_kernel.specs.Outcomes.{Outcome}
use Rattle.lab_threads.proofs.BookCalls.{book_after, book_still, kernel_after}
use Rattle.lab_threads.proofs.book.Book.call.Goals as goal

pub invariant_of-self-then-not-has_entry : goal.invariant_of-self-then-not-has_entry
invariant_of-self-then-not-has_entry c = search (rules, book_still, c.args.pid, c.args.call.now, c.in_ok-answer.answer, c.self.invariant, c.in_ok-answer.ensures.answered)

pub returns-then-not-has_entry-clause-kernel : goal.returns-then-not-has_entry-clause-kernel
returns-then-not-has_entry-clause-kernel c = search (rules, kernel_after, book_still, c.self.inside.kernel, c.call_with_copy.new.self, c.self.inside.history.items, c.reserve.new.self.items, c.self.inside.waiting.items, c.args.pid, c.args.call.now, c.args.self.now, c.self.invariant, c.in_ok-answer.answer, c.in_ok-answer.ensures.answered, c.self.view_is)

pub invariant_of-self-2 : goal.invariant_of-self-2
invariant_of-self-2 c =
    book_after c.args.pid c.args.call.now c.in_ok-answer.answer c.self.invariant (search rules) (ap (λ (o : Outcome). o.0) c.in_ok-answer.ensures.answered)
    (ap (λ (o : Outcome). o.1) c.in_ok-answer.ensures.answered) (search rules) (search rules)

pub returns-clause-kernel : goal.returns-clause-kernel
returns-clause-kernel c =
    kernel_after c.self.inside.kernel c.call_with_copy.new.self c.self.inside.history.items c.push_reserved.new.self.items c.self.inside.waiting.items _ c.args.pid c.args.call.now c.args.self.now
    c.self.invariant
    (book_after c.args.pid c.args.call.now c.in_ok-answer.answer c.self.invariant (search rules) (ap (λ (o : Outcome). o.0) c.in_ok-answer.ensures.answered) (ap (λ (o : Outcome). o.1) c.in_ok-answer.ensures.answered) (search rules) (search rules))
    c.self.view_is (ap (λ (o : Outcome). o.1) c.in_ok-answer.ensures.answered)
