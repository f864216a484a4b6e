-- The laws of handles, from their lemmas. Assumes nothing.
use Rattle.std.proofs.Common.{refl}
use Rattle.model.specs.Given.{GivenLaws, itself}
use Rattle.model.specs.Promise.{meant}
use Rattle.model.proofs.Places.{load_held, held_placed, after_held, after_placed}
use Rattle.model.proofs.Moves.{held_once, named_below, new_named, after_moves, run_later, loaded_stays, held_lasting, loaded_lasting}
use Rattle.model.proofs.Leaves.{remove_gone, replace_gone, value_gone, root_gone, clear_gone}

-- all laws of handles stand
pub given_laws : GivenLaws
given_laws = record {
  load_holds = load_held;
  edit_holds = after_held;
  held_single = held_once;
  held_placed = held_placed;
  edit_leaves_placed = after_placed;
  named_was_given = named_below;
  edit_moves = after_moves;
  root_named = λ d. refl;
  new_named = new_named;
  remove_gone = remove_gone;
  replace_gone = replace_gone;
  value_gone = value_gone;
  root_gone = root_gone;
  clear_gone = clear_gone;
  run_holds = λ d cs e g r. (let x = run_later itself d cs e g r in (x.held, x.moves, x.same));
  handles_last = held_lasting itself;
  loaded_last = loaded_lasting itself;
  meant_last = loaded_lasting meant;
  meant_stays = loaded_stays meant (λ s. s.1);
}
