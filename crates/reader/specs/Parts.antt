-- Parts of the definitions' readers that functions of their own read.
use Rattle.std.specs.Prelude.{◌≡◌, List, ℕ, ◌+◌, ◌-◌, ◌≤◌, ◌<◌, length}
use Rattle.std.proofs.Math.Option.{Option}
use Prim.Native.Char.{code}
use Rattle.std.specs.Prelude.{Result, IfOk}
use Rattle.base.specs.declared.Refusal.{Refusal}
use Rattle.reader.specs.Answers.{Out, out_at, Tells, Reads, Yields}
use Rattle.reader.specs.declared.Counted.{Counted}
use Rattle.syntax.specs.Actions.{a_constant, a_ranked, a_label, some_labels, an_action, actions, alternatives}
use Rattle.syntax.specs.Reading.{Reader, ◌>>=◌, ◌>>◌, pure, refuse, expect, a_name}
use Rattle.syntax.specs.Written.{Constant, Act, Acts}
use Rattle.words.specs.Words.{Word, words_at}

-- a name and its constant
unfoldable pub with_constant : Reader (Word × Option Constant)
with_constant = do w ← a_name; c ← a_constant; pure (w, c)

-- the rest of `^`, whatever word that is
pub record ARanked (text : List ℕ) (at : ℕ) (r : Out) : Type 0 where
  pub low : at ≤ r.at
  pub high : r.at ≤ length text
  pub tells : (s : Word) (k : ℕ) → length text < at + k → Tells (a_ranked s (words_at text at)) text r

-- one action, with the fuel k for what stands in it
abbrev pub one_action : ℕ → ℕ → Reader Act
one_action k left = an_action (λ l ws. actions k l ws) (λ l ws. alternatives k l 64 ws) left

-- the labels and the actions of an alternative
unfoldable pub a_labelled : ℕ → ℕ → Reader Acts → Reader (List Word × Acts)
a_labelled k room inner = do ls ← some_labels k room; expect (code ":"); b ← inner; pure (ls, b)

-- a label was read where one more could stand
pub record OneLabel (text : List ℕ) (at room : ℕ) (r : Out) : Type 0 where
  pub reads : Reads text at at (λ _. a_label room) r
  pub past : r.fault ≡ 0 → at < r.at
  pub some : r.fault ≡ 0 → 0 < room
  -- at the end of the text, where the fuel of `some_labels` may be spent
  pub dry : at ≡ length text → Tells {A = List Word} (refuse (words_at text at)) text r

-- so many labels may still stand
abbrev pub Leaves : ℕ → ℕ → List Word → Type 0
Leaves room left ls = room - length ls ≡ left

abbrev pub LeavesBoth : ℕ → ℕ → List Word × Acts → Type 0
LeavesBoth room left p = room - length p.0 ≡ left

abbrev pub SomeLabels : List ℕ → ℕ → ℕ → Result Counted Refusal → Type 0
SomeLabels text at room r = Yields (λ ls. IfOk r (λ c. Leaves room c.room ls)) text at (at + 1) (λ k. some_labels k room) (out_at (λ c. c.at) r)

abbrev pub ALabelled : List ℕ → ℕ → ℕ → ℕ → Result Counted Refusal → Type 0
ALabelled text at room left r = Yields (λ p. IfOk r (λ c. LeavesBoth room c.room p)) text at (at + 1) (λ k. a_labelled k room (actions k left)) (out_at (λ c. c.at) r)
