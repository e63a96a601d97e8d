use Rattle.std.proofs.Common.{ℕ, ◌≡◌, ◌<◌, false, [], map, take, get_or}
use Rattle.std.specs.List.{All, filter_map}
use Rattle.lab_sched.specs.Schedules.{IsBlock}
use Rattle.lab_sched.specs.ScheduleTexts.{block_in, is_bad}
use Rattle.lab_sched.proofs.schedule.blocks_of_words.Given as goal

-- the words so far are the blocks
abbrev pub invariant-loop-i : goal.invariant-loop-i
invariant-loop-i l = record {
  read : l.blocks.items ≡ filter_map block_in (take l.i (map (λ word. word.now) l.words));
  good : (k : ℕ) → k < l.i → is_bad (get_or (map (λ word. word.now) l.words) k []) ≡ false;
  valid : All IsBlock l.blocks.items;
}
