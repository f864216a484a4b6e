use Rattle.std.proofs.Common.{◌-◌, length, get_or, take, drop, sym, ◌∙◌, subst}
use Rattle.grammar.specs.Reader.{byte_p}
use Rattle.lexemes.specs.ByteClasses.{bytes_of}
use Rattle.lexemes.specs.Scan.{Passes}
use Rattle.lexemes.proofs.Ties.{first_of, byte_passes}
use Rattle.lexemes.proofs.bytes.behind_byte.Goals as goal

pub returns-in-len1-up : goal.returns-in-len1-up
returns-in-len1-up c =
    let s = c.args.text.now in
    let t = take (length s - 1) (drop 1 s) in
    subst (λ z. Passes (byte_p (bytes_of c.args.class)) z t) (sym (first_of s c.in-len1-up.len_at_least)) (byte_passes (bytes_of c.args.class) (get_or s 0 0) t (sym c.holds.ensures ∙ c.if-holds.true))
