-- Pieces read from the front, one at a time: trivia, and then what the grammar makes of the rest. Assumes nothing.
use Rattle.std.proofs.Common.{◌≡◌, ℕ, Bool, true, false, List, [], ◌++◌, sym, refl, ap, ◌∙◌, subst, append_assoc, append-nil}
use Rattle.grammar.specs.Classes.{Blank}
use Rattle.grammar.specs.Layout.{Line, Block, Layout, stop, note}
use Rattle.grammar.specs.Grammar.{All, BlockComment, LineComment, Between, quiet, remark, broken, after, Trivia, empty, block_comment, open_line}
use Rattle.grammar.specs.Pieces.{Break, whitespace, comment, newline as break, Pieces, end, leaf, break_bytes, print, lay}
use Rattle.grammar.proofs.Laid.{flag, flag_broken, after_quiet, after_remark, blanks_on, break_trivia, line_trivia}

-- The pieces begin with trivia, and whatever trivia stands in their place, G holds of it with what follows.
pub record Front (G : Layout → List ℕ → Type 0) (a : Pieces) : Type 0 where
  pub last : Bool
  pub between : Between
  pub bytes : List ℕ
  pub trivia : Trivia last between bytes
  pub then : Bool → Layout
  pub tail : List ℕ
  pub head : (g : Between) (s : List ℕ) → Trivia last g s → G (after g then) (s ++ tail)
  pub laid : (b : Bool) → lay a b ≡ after (flag b between) then
  pub printed : print a ≡ bytes ++ tail

module _ (G : Layout → List ℕ → Type 0) where
  -- so G holds of the pieces
  pub done : (a : Pieces) → Front G a → G (lay a false) (print a)
  done a m = subst (λ y. G y (print a)) (sym (m.laid false)) (subst (G (after m.between m.then)) (sym m.printed) (m.head m.between m.bytes m.trivia))

  module _ (a : Pieces) (m : Front G a) where
    pub space_on : (v : List ℕ) → All Blank v → Front G (leaf (whitespace v) a)
    space_on v h = record {
      last = m.last;
      between = m.between;
      bytes = v ++ m.bytes;
      trivia = blanks_on m.last m.between v m.bytes h m.trivia;
      then = m.then;
      tail = m.tail;
      head = m.head;
      laid = m.laid;
      printed = ap (λ y. v ++ y) m.printed ∙ sym (append_assoc v m.bytes m.tail);
    }

    pub break_on : (k : Break) → Front G (leaf (break k) a)
    break_on k = record {
      last = m.last;
      between = broken m.between;
      bytes = break_bytes k ++ m.bytes;
      trivia = break_trivia m.trivia k;
      then = m.then;
      tail = m.tail;
      head = m.head;
      laid = λ b. m.laid true ∙ ap (λ y. after y m.then) (sym (flag_broken b m.between));
      printed = ap (λ y. break_bytes k ++ y) m.printed ∙ sym (append_assoc (break_bytes k) m.bytes m.tail);
    }

    pub block_on : (t : List ℕ) → BlockComment t → Front G (leaf (comment (Block t)) a)
    block_on t h = record {
      last = m.last;
      between = remark false (Block t) m.between;
      bytes = t ++ m.bytes;
      trivia = block_comment h m.trivia;
      then = m.then;
      tail = m.tail;
      head = m.head;
      laid = λ b. ap (note b (Block t)) (m.laid false) ∙ sym (after_remark b (Block t) m.between m.then);
      printed = ap (λ y. t ++ y) m.printed ∙ sym (append_assoc t m.bytes m.tail);
    }

    -- a line comment and the Newline that ends it
    pub line_on : (t : List ℕ) (k : Break) → LineComment t → Front G (leaf (comment (Line t)) (leaf (break k) a))
    line_on t k h = record {
      last = m.last;
      between = remark false (Line t) (broken m.between);
      bytes = t ++ (break_bytes k ++ m.bytes);
      trivia = line_trivia m.trivia t k h;
      then = m.then;
      tail = m.tail;
      head = m.head;
      laid = λ b. ap (note b (Line t)) (m.laid true) ∙ sym (after_remark b (Line t) (broken m.between) m.then);
      printed = ap (λ y. t ++ (break_bytes k ++ y)) m.printed ∙ (ap (λ y. t ++ y) (sym (append_assoc (break_bytes k) m.bytes m.tail)) ∙ sym (append_assoc t (break_bytes k ++ m.bytes) m.tail));
    }

  -- nothing more, at the end of the text
  pub stopped : ((g : Between) (s : List ℕ) → Trivia true g s → G (after g stop) s) → Front G end
  stopped h = record {
    last = true;
    between = quiet false;
    bytes = [];
    trivia = empty;
    then = stop;
    tail = [];
    head = λ g s t. subst (G (after g stop)) (sym (append-nil s)) (h g s t);
    laid = λ b. sym (after_quiet b stop);
    printed = refl;
  }

  -- a line comment that is open at the end of the text
  pub stopped_open : ((g : Between) (s : List ℕ) → Trivia true g s → G (after g stop) s) → (t : List ℕ) → LineComment t → Front G (leaf (comment (Line t)) end)
  stopped_open h t c = record {
    last = true;
    between = remark false (Line t) (quiet false);
    bytes = t;
    trivia = open_line refl c;
    then = stop;
    tail = [];
    head = λ g s z. subst (G (after g stop)) (sym (append-nil s)) (h g s z);
    laid = λ b. sym (after_remark b (Line t) (quiet false) stop);
    printed = refl;
  }

  -- no trivia: a lexeme
  pub lexeme : (a : Pieces) (k : Bool → Layout) (u : List ℕ) → ((b : Bool) → lay a b ≡ k b) → print a ≡ u → ((g : Between) (s : List ℕ) → Trivia false g s → G (after g k) (s ++ u)) → Front G a
  lexeme a k u l p h = record {
    last = false;
    between = quiet false;
    bytes = [];
    trivia = empty;
    then = k;
    tail = u;
    head = h;
    laid = λ b. l b ∙ sym (after_quiet b k);
    printed = p;
  }

-- where nothing is asked
pub idle : (a : Pieces) → Front (λ _ _. Unit {0}) a
idle a = lexeme (λ _ _. Unit {0}) a (lay a) (print a) (λ b. refl) refl (λ g s t. tt)
