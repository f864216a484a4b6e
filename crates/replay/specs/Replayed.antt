-- What replay makes of a document and of all that is lent. Assumes nothing.
use Rattle.std.specs.Prelude.{◌≡◌, ℕ, ◌<◌, ◌≤◌, ◌⊎◌, List, ◌++◌, length, drop, Ok, Err, Result}
use Rattle.refusal.specs.declared.Refusal.TheVariants.{BadMemory}
use Rattle.model.specs.State.{State, Given, load}
use Rattle.model.specs.Promise.{Promise, Lasting, account_of, meant}
use Rattle.loader.specs.declared.error.LoadError.{LoadError}
use Rattle.loader.specs.declared.error.LoadError.TheVariants.{Refused}
use Rattle.loader.specs.Loaded.{RefusedSo}
use Rattle.document.specs.declared.document.Document.{Document}
use Rattle.document.specs.Documents.{state_of}
use Rattle.replay.specs.declared.call.Call.{Call}
use Rattle.replay.specs.declared.answer.Answer.{Answer}
use Rattle.replay.specs.declared.buffers.Buffers.{Buffers}
use Rattle.replay.specs.declared.start.Start.{Start}
use Rattle.replay.specs.Carried.{World, world_of, carried_all, answers_to, calls_for}

-- the document, what the buffers and the list of answers hold, and the queue
pub record Lent : Type 0 where
  pub document : Document
  pub answers : List Answer
  pub bytes : List ℕ
  pub ordinals : List ℕ
  pub queue : List ℕ

-- all that is lent, as it stands
abbrev pub lent_of : Document → List Answer → Buffers → Lent
lent_of d rs b = record { document = d; answers = rs; bytes = b.bytes.now; ordinals = b.ordinals.now; queue = b.queue.now }

-- the world in which the first call is made: the document is loaded
abbrev pub first : State → Lent → World
first d l = record { state = d; bytes = l.bytes; ordinals = l.ordinals; queue = length l.queue }

-- Accepted: the text is loaded; the calls have made of the document and the buffers what their definitions say, one after the other, and
-- the answer of each is recorded, the rest of the list left alone; and the whole promise is kept.
pub record Played (s : Start) (cs : List Call) (a b : Lent) : Type 0 where
  pub room : length cs ≤ length a.answers
  pub loaded : State
  pub loads : load s.records s.store s.text.now ≡ Given loaded
  pub world : world_of b.document b.bytes b.ordinals b.queue ≡ carried_all (first loaded a) cs
  pub recorded : b.answers ≡ answers_to (first loaded a) cs ++ drop (length cs) a.answers
  pub promise : Promise meant loaded (calls_for (first loaded a) cs) (state_of b.document) (account_of meant loaded (calls_for (first loaded a) cs))
  pub lasting : Lasting meant (state_of b.document)

-- Refused: there are more calls than answers can be recorded, or else load refuses so; and all is as it was.
pub record Stopped (s : Start) (cs : List Call) (a b : Lent) (e : LoadError) : Type 0 where
  pub why : ((length a.answers < length cs) × (e ≡ Refused BadMemory)) ⊎ ((length cs ≤ length a.answers) × RefusedSo s.records s.store s.text.now e)
  pub document : b.document ≡ a.document
  pub answers : b.answers ≡ a.answers
  pub bytes : b.bytes ≡ a.bytes
  pub ordinals : b.ordinals ≡ a.ordinals
  pub queue : b.queue ≡ a.queue

-- what replay makes of the lent a: b
abbrev pub Replayed : Start → List Call → Lent → Lent → Result (Unit {0}) LoadError → Type 0
Replayed s cs a b (Ok _) = Played s cs a b
Replayed s cs a b (Err e) = Stopped s cs a b e
