-- What a container's items stand between, and the tokens by their bytes. Assumes nothing.
use Rattle.std.specs.Prelude.{ℕ, cond, Some, None, Option, ◌==◌}
use Rattle.grammar.specs.Grammar as of
use Rattle.text.specs.declared.frame.Frame.{Frame}
use Rattle.text.specs.declared.frame.Frame.TheVariants.{Brackets, Braces}
use Rattle.text.specs.declared.sink.TokenKind.{TokenKind}
use Rattle.text.specs.declared.sink.TokenKind.TheVariants.{OpenArray, CloseArray, OpenObject, CloseObject, Comma, Colon}

-- the frame of each name
abbrev pub frame_for : Frame → of.Frame
frame_for Brackets = of.brackets
frame_for Braces = of.braces

-- which token a byte is
abbrev pub token_of : ℕ → Option TokenKind
token_of c =
    cond (c == 91) (Some OpenArray) (cond (c == 93) (Some CloseArray) (cond (c == 123) (Some OpenObject)
    (cond (c == 125) (Some CloseObject) (cond (c == 44) (Some Comma) (cond (c == 58) (Some Colon) None)))))
