use Rattle.std.proofs.Common.{◌≡◌, ◌-◌, ◌*◌, ◌++◌}
use Rattle.arrayvec.specs.ArrayVec.{array_vec_len}
use Rattle.debugger.specs.History.{history, sight}
use Rattle.debugger.specs.Standing.{words_from}
use Rattle.debugger.proofs.standing.words_text.Given as goal

abbrev pub invariant-loop-index : goal.invariant-loop-index
invariant-loop-index l = record {
  items : l.text.items ++ words_from (history l.processor.scenario) (sight l.processor.scenario.rope l.machine) l.place l.index
      (l.count - l.index) ≡ words_from (history l.processor.scenario) (sight l.processor.scenario.rope l.machine) l.place 0 l.count;
  len : array_vec_len l.text ≡ 18 * l.index;
}
