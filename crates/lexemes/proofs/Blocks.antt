-- One turn of a block comment. Assumes nothing.
use Rattle.std.proofs.Common.{◌≡◌, ℕ, List, [], ◌∷◌, Result, ap, ◌∙◌, inl, inr}
use Rattle.std.specs.Borrow.{Bor}
use Rattle.grammar.specs.Parse.{map_r, one_p, eps_p, bind, pick}
use Rattle.grammar.specs.Classes.{only, InBlock}
use Rattle.grammar.specs.Reader.{byte_p, char_p, block_turn, block_turn_p, block_p}
use Rattle.grammar.proofs.Blocks.{slash_p, starred_p}
use Rattle.lexemes.specs.declared.mismatch.Mismatch.{Mismatch}
use Rattle.lexemes.specs.Scan.{Fails, Passes, Goes}
use Rattle.lexemes.proofs.Ties.{left_on, one_is, byte_split, byte_starts, byte_none, loop_more, loop_done}
use Rattle.lexemes.proofs.Lexed.{block_turns}

module _ (s t : List ℕ) (x : Passes (byte_p (only 42)) s t) where
  abbrev star : ℕ
  star = (byte_split (only 42) s t x).0

  -- a star, and what comes behind it
  starred : block_turn_p s ≡ map_r block_turn (map_r inl (map_r (λ w. (star, w)) (slash_p t)))
  starred =
      ap (λ v. map_r block_turn (pick v starred_p (char_p InBlock) s)) (byte_starts (only 42) s t x)
      ∙ ap (λ z. map_r block_turn (map_r inl (bind slash_p z))) (one_is (only 42) s t x)

  pub block_close : (u : List ℕ) → Passes (byte_p (only 47)) t u → Passes block_p s u
  block_close u y =
      loop_done block_turn_p block_turns s u (star ∷ (byte_split (only 47) t u y).0 ∷ []) (record {
        left = left_on s t u x.1.left y.1.left;
        reads = starred
            ∙ ap (λ v. map_r block_turn (map_r inl (map_r (λ w. (star, w)) (pick v (one_p (only 47)) eps_p t)))) (byte_starts (only 47) t u y)
            ∙ ap (λ z. map_r block_turn (map_r inl (map_r (λ w. (star, w)) (map_r inl z)))) (one_is (only 47) t u y);
      })

  pub block_star : (u : List ℕ) → Fails (byte_p (only 47)) t u → (r : Result (Bor (List ℕ)) Mismatch) → Goes block_p t r → Goes block_p s r
  block_star u y r g =
      loop_more block_turn_p block_turns s t (star ∷ []) (record {
        left = x.1.left;
        reads = starred ∙ ap (λ v. map_r block_turn (map_r inl (map_r (λ w. (star, w)) (pick v (one_p (only 47)) eps_p t)))) (byte_none (only 47) t u y);
      }) r g

module _ (s u : List ℕ) (y : Fails (byte_p (only 42)) s u) (t : List ℕ) where
  plain : block_turn_p s ≡ map_r block_turn (map_r inr (char_p InBlock s))
  plain = ap (λ v. map_r block_turn (pick v starred_p (char_p InBlock) s)) (byte_none (only 42) s u y)

  pub block_char : Passes (char_p InBlock) s t → (r : Result (Bor (List ℕ)) Mismatch) → Goes block_p t r → Goes block_p s r
  block_char x r g = loop_more block_turn_p block_turns s t x.0 (record { left = x.1.left; reads = plain ∙ ap (λ z. map_r block_turn (map_r inr z)) x.1.reads }) r g
