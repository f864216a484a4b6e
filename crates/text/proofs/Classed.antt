-- Which token a byte is, and whether it is the one that is wanted. Assumes nothing.
use Rattle.std.proofs.Common.{◌≡◌, ℕ, Bool, true, false, cond, eqb, Some, None, Option, sym, refl, ap, ◌∙◌, arith}
use Rattle.std.proofs.lemmas.Bool.Decides.{nat_tests}
use Rattle.std.proofs.lemmas.Bool.{eqb-true}
use Rattle.grammar.specs.Parse.{within}
use Rattle.grammar.specs.Classes.{only}
use Rattle.grammar.specs.Pieces.{token_byte}
use Rattle.text.specs.declared.sink.TokenKind.{TokenKind}
use Rattle.text.specs.declared.sink.TokenKind.TheVariants.{OpenArray, CloseArray, OpenObject, CloseObject, Comma, Colon}
use Rattle.text.specs.Events.{token_for}
use Rattle.text.specs.Frames.{token_of}

abbrev byte_of : TokenKind → ℕ
byte_of m = token_byte (token_for m)

some_is : TokenKind → Option TokenKind → TokenKind
some_is x (Some k) = k
some_is x None = x

-- a byte that is one of the tokens tried is that token's
tried : (b v : ℕ) (k x : TokenKind) (rest : Option TokenKind) → byte_of x ≡ v → (Some k ≡ rest → byte_of k ≡ b) → Some k ≡ cond (eqb b v) (Some x) rest → byte_of k ≡ b
unfolding some_is
tried b v k x rest is later e = go (eqb b v) refl e
  where
    go : (w : Bool) → eqb b v ≡ w → Some k ≡ cond w (Some x) rest → byte_of k ≡ b
    go true q f = ap (λ o. byte_of (some_is k o)) f ∙ is ∙ sym (eqb-true b v q)
    go false q f = later f

missing : {A : Type 0} (k : TokenKind) → Some k ≡ None → A
missing k e = let z : ◌≡◌ {A = ℕ} 0 1 = cc in absurd (omega arith)

token_byte_lem : (b : ℕ) (k : TokenKind) → Some k ≡ token_of b → byte_of k ≡ b
token_byte_lem b k e =
    tried b 91 k OpenArray _ refl (tried b 93 k CloseArray _ refl (tried b 123 k OpenObject _ refl (tried b 125 k CloseObject _ refl (tried b 44 k Comma _ refl (tried b 58 k Colon None refl (missing k)))))) e

same_byte : (x b : ℕ) → eqb x b ≡ within (only b) x
same_byte x b = grind (arith, nat_tests)

pub token_is : (b : ℕ) (k m : TokenKind) → Some k ≡ token_of b → eqb (byte_of k) (byte_of m) ≡ within (only (byte_of m)) b
token_is b k m e = same_byte (byte_of k) (byte_of m) ∙ ap (within (only (byte_of m))) (token_byte_lem b k e)

token_back : (m : TokenKind) → token_of (byte_of m) ≡ Some m
token_back OpenArray = refl
token_back CloseArray = refl
token_back OpenObject = refl
token_back CloseObject = refl
token_back Comma = refl
token_back Colon = refl

pub token_none : (b : ℕ) (m : TokenKind) → None ≡ token_of b → false ≡ within (only (byte_of m)) b
token_none b m e = go (eqb b (byte_of m)) refl ∙ same_byte b (byte_of m)
  where
    go : (w : Bool) → eqb b (byte_of m) ≡ w → false ≡ eqb b (byte_of m)
    go true q = missing m (sym (e ∙ ap token_of (eqb-true b (byte_of m) q) ∙ token_back m))
    go false q = sym q
