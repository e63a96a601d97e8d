use Rattle.std.proofs.Common.{Some, None, subst}
use Rattle.lab_questions.specs.Private.Judged.{IsFaultIn}
use Rattle.lab_questions.proofs.AnswerLemmas.{fault_found, word_holds}
use Rattle.lab_questions.proofs.answers.found_of.Goals as goal

pub returns-in-Some : goal.returns-in-Some
returns-in-Some c =
    record {
      found = fault_found c.args.word.now c.args.waiters.now c.args.found.now c.in-Some.number
          (subst (λ es. IsFaultIn c.args.word.now c.args.waiters.now es (Some c.in-Some.number)) c.deref.ensures.value c.in-Some.ensures.fault);
    }

pub returns-in-None : goal.returns-in-None
returns-in-None c =
    record {
      found = word_holds c.args.word.now c.args.waiters.now c.args.found.now
          (subst (λ es. IsFaultIn c.args.word.now c.args.waiters.now es None) c.deref.ensures.value c.in-None.ensures.fault) c.if-found.true;
    }

pub returns-in-None-2 : goal.returns-in-None-2
returns-in-None-2 c =
    record {
      found = λ start ends. (c.if-found.false, subst (λ es. IsFaultIn c.args.word.now c.args.waiters.now es None) c.deref.ensures.value c.in-None.ensures.fault);
    }
