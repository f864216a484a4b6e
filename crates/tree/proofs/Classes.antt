-- What a node's class is, from what code tells of it. Assumes nothing.
use Rattle.std.proofs.Common.{◌≡◌, ℕ, false, refl, arith}
use Rattle.grammar.specs.Layout as said
use Rattle.model.specs.Nodes.{blank, break, remark, Class, gap, mark, value}
use Rattle.model.specs.Asks.{is_comma}
use Rattle.tree.specs.declared.class.Class.TheVariants.{Blank, Break, Remark, Comma, Mark, Value}
use Rattle.tree.specs.Classes.{plain}

pub is_blank_lem : (c : Class) → Blank ≡ plain c → c ≡ gap blank
is_blank_lem (gap blank) e = refl
is_blank_lem (gap break) e = let z : ◌≡◌ {A = ℕ} 0 1 = cc in absurd (omega arith)
is_blank_lem (gap (remark x)) e = let z : ◌≡◌ {A = ℕ} 0 1 = cc in absurd (omega arith)
is_blank_lem (mark said.Open) e = let z : ◌≡◌ {A = ℕ} 0 1 = cc in absurd (omega arith)
is_blank_lem (mark said.Close) e = let z : ◌≡◌ {A = ℕ} 0 1 = cc in absurd (omega arith)
is_blank_lem (mark said.Comma) e = let z : ◌≡◌ {A = ℕ} 0 1 = cc in absurd (omega arith)
is_blank_lem (mark said.Colon) e = let z : ◌≡◌ {A = ℕ} 0 1 = cc in absurd (omega arith)
is_blank_lem (mark said.Name) e = let z : ◌≡◌ {A = ℕ} 0 1 = cc in absurd (omega arith)
is_blank_lem value e = let z : ◌≡◌ {A = ℕ} 0 1 = cc in absurd (omega arith)

pub is_break_lem : (c : Class) → Break ≡ plain c → c ≡ gap break
is_break_lem (gap blank) e = let z : ◌≡◌ {A = ℕ} 0 1 = cc in absurd (omega arith)
is_break_lem (gap break) e = refl
is_break_lem (gap (remark x)) e = let z : ◌≡◌ {A = ℕ} 0 1 = cc in absurd (omega arith)
is_break_lem (mark said.Open) e = let z : ◌≡◌ {A = ℕ} 0 1 = cc in absurd (omega arith)
is_break_lem (mark said.Close) e = let z : ◌≡◌ {A = ℕ} 0 1 = cc in absurd (omega arith)
is_break_lem (mark said.Comma) e = let z : ◌≡◌ {A = ℕ} 0 1 = cc in absurd (omega arith)
is_break_lem (mark said.Colon) e = let z : ◌≡◌ {A = ℕ} 0 1 = cc in absurd (omega arith)
is_break_lem (mark said.Name) e = let z : ◌≡◌ {A = ℕ} 0 1 = cc in absurd (omega arith)
is_break_lem value e = let z : ◌≡◌ {A = ℕ} 0 1 = cc in absurd (omega arith)

pub is_remark_lem : (c : Class) → Remark ≡ plain c → (x : said.Comment) × (c ≡ gap (remark x))
is_remark_lem (gap blank) e = let z : ◌≡◌ {A = ℕ} 0 1 = cc in absurd (omega arith)
is_remark_lem (gap break) e = let z : ◌≡◌ {A = ℕ} 0 1 = cc in absurd (omega arith)
is_remark_lem (gap (remark x)) e = (x, refl)
is_remark_lem (mark said.Open) e = let z : ◌≡◌ {A = ℕ} 0 1 = cc in absurd (omega arith)
is_remark_lem (mark said.Close) e = let z : ◌≡◌ {A = ℕ} 0 1 = cc in absurd (omega arith)
is_remark_lem (mark said.Comma) e = let z : ◌≡◌ {A = ℕ} 0 1 = cc in absurd (omega arith)
is_remark_lem (mark said.Colon) e = let z : ◌≡◌ {A = ℕ} 0 1 = cc in absurd (omega arith)
is_remark_lem (mark said.Name) e = let z : ◌≡◌ {A = ℕ} 0 1 = cc in absurd (omega arith)
is_remark_lem value e = let z : ◌≡◌ {A = ℕ} 0 1 = cc in absurd (omega arith)

pub is_comma_lem : (c : Class) → Comma ≡ plain c → c ≡ mark said.Comma
is_comma_lem (gap blank) e = let z : ◌≡◌ {A = ℕ} 0 1 = cc in absurd (omega arith)
is_comma_lem (gap break) e = let z : ◌≡◌ {A = ℕ} 0 1 = cc in absurd (omega arith)
is_comma_lem (gap (remark x)) e = let z : ◌≡◌ {A = ℕ} 0 1 = cc in absurd (omega arith)
is_comma_lem (mark said.Open) e = let z : ◌≡◌ {A = ℕ} 0 1 = cc in absurd (omega arith)
is_comma_lem (mark said.Close) e = let z : ◌≡◌ {A = ℕ} 0 1 = cc in absurd (omega arith)
is_comma_lem (mark said.Comma) e = refl
is_comma_lem (mark said.Colon) e = let z : ◌≡◌ {A = ℕ} 0 1 = cc in absurd (omega arith)
is_comma_lem (mark said.Name) e = let z : ◌≡◌ {A = ℕ} 0 1 = cc in absurd (omega arith)
is_comma_lem value e = let z : ◌≡◌ {A = ℕ} 0 1 = cc in absurd (omega arith)

-- a mark other than a comma
pub is_mark : (c : Class) → Mark ≡ plain c → (m : said.Mark) × (c ≡ mark m) × (is_comma (mark m) ≡ false)
is_mark (gap blank) e = let z : ◌≡◌ {A = ℕ} 0 1 = cc in absurd (omega arith)
is_mark (gap break) e = let z : ◌≡◌ {A = ℕ} 0 1 = cc in absurd (omega arith)
is_mark (gap (remark x)) e = let z : ◌≡◌ {A = ℕ} 0 1 = cc in absurd (omega arith)
is_mark (mark said.Open) e = (said.Open, refl, refl)
is_mark (mark said.Close) e = (said.Close, refl, refl)
is_mark (mark said.Comma) e = let z : ◌≡◌ {A = ℕ} 0 1 = cc in absurd (omega arith)
is_mark (mark said.Colon) e = (said.Colon, refl, refl)
is_mark (mark said.Name) e = (said.Name, refl, refl)
is_mark value e = let z : ◌≡◌ {A = ℕ} 0 1 = cc in absurd (omega arith)

pub class_is_value : (c : Class) → Value ≡ plain c → c ≡ value
class_is_value (gap blank) e = let z : ◌≡◌ {A = ℕ} 0 1 = cc in absurd (omega arith)
class_is_value (gap break) e = let z : ◌≡◌ {A = ℕ} 0 1 = cc in absurd (omega arith)
class_is_value (gap (remark x)) e = let z : ◌≡◌ {A = ℕ} 0 1 = cc in absurd (omega arith)
class_is_value (mark said.Open) e = let z : ◌≡◌ {A = ℕ} 0 1 = cc in absurd (omega arith)
class_is_value (mark said.Close) e = let z : ◌≡◌ {A = ℕ} 0 1 = cc in absurd (omega arith)
class_is_value (mark said.Comma) e = let z : ◌≡◌ {A = ℕ} 0 1 = cc in absurd (omega arith)
class_is_value (mark said.Colon) e = let z : ◌≡◌ {A = ℕ} 0 1 = cc in absurd (omega arith)
class_is_value (mark said.Name) e = let z : ◌≡◌ {A = ℕ} 0 1 = cc in absurd (omega arith)
class_is_value value e = refl
