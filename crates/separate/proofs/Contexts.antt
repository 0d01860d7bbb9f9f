-- What a part's rules are resolved in, as crate partrules asks for it.
use mathlib.Core.Bool.{Bool, true, false, ◌&&◌, ◌||◌}
use mathlib.Core.List.{List, []}
use mathlib.Core.Path.{◌≡◌, ◌∙◌}
use Prim.Native.Nat.{ℕ}
use native.Mathlib.Omega.{arith}
use lib.ListN.{length}
use Rattle.cells.specs.Cells.{acts_cells}
use Rattle.grammar.specs.Derived.{RulesIn}
use Rattle.names.specs.Known.{Checked, good, wrong, Names}
use Rattle.names.specs.Uses.{Use, pairs_of}
use Rattle.partnames.proofs.Together.{rules-length}
use Rattle.partpairs.proofs.Open.{open-acts, opens-ordered}
use Rattle.partpairs.specs.Numbers.{Numbered}
use Rattle.partpairs.specs.Pairing.{Collected, PairsDone}
use Rattle.partrules.specs.Opened.{Context, Holds}
use Rattle.parts.specs.Objects.{OpenRule, open_all, open_rules, others, together}
use Rattle.program.specs.Past.{past_all, exits_all}
use Rattle.program.specs.Program.{Acts}
use Rattle.resolver.specs.Resolved.{BuiltTold, Ends, ended, failed, Flags}
use Rattle.separate.specs.Steps.{Known}
use Rattle.symbols.proofs.Indexing.{kept-behind, held-behind}
use Rattle.symbols.specs.Index.{IndexKept}
use Rattle.syntax.specs.Reading.{peek}
use Rattle.syntax.specs.Texts.{Common}
use Rattle.syntax.specs.Written.{Rule}
use Rattle.words.specs.Words.{Word, words_at}

-- the other names and the pairs are those of any rules that are the same but for places
abbrev pub context_of : Common → Names → List Rule → List Word → List Use → Bool → Context
context_of c names rs ws us sure = record { program = together c rs; names = names; known = open_rules c.listed rs; listed = c.listed; others = ws; uses = us; sure = sure }

told : {E F : Type 0} {text : List ℕ} {ws : List Word} {cs : List ℕ} {c : ℕ} {cs' : List ℕ} {r : BuiltTold} (x : Checked Acts)
    → Ends E text ws cs c cs' (λ b. acts_cells b []) (λ b. Flags r.past r.exits (true && past_all b) (false || exits_all b)) r.done x → (F → E)
    → Ends F text ws cs c cs' (λ b. acts_cells b []) (λ b. r.past ≡ past_all b) r.done x
told (good b) (ended e h k f) g = ended e h (λ y. k (g y)) f.0
told (wrong n w) (failed e z a l) g = failed e z a l

pub holds : {text rows : List ℕ} {n own : ℕ} {c : Common} {rs : List Rule} {names : Names} (ws : List Word) (us : List Use) (sure : Bool) → Known text rows n own c rs names
    → length ws ≡ length (others c.listed rs) → (sure ≡ true → Numbered text rows n own (pairs_of rs)) → Holds text rows n own (context_of c names rs ws us sure)
holds {text} {rows} {n} {own} {c} {rs} {names} ws us sure k l h = record {
  agrees = k.agrees;
  acts = record {
    tells = λ at class cs j cs' r d q vs i. told _ ((open-acts c rs k.agrees k.entries d).done q vs i) (λ e. rw k.own_is at (h e));
  };
  pairs = omega (arith, k.own_is, rules-length c rs, l);
}

-- Pairs

pub known_behind : {text old new : List ℕ} {n own : ℕ} {c : Common} {rs : List Rule} {names : Names} → IndexKept old new → Known text old n own c rs names → Known text new n own c rs names
known_behind {text} {old} {new} {n} f k =
    let e = held-behind text n f k.kept.few in
    record {
      kept = kept-behind f k.kept;
      agrees = rw e k.agrees;
      entries = rw e k.entries;
      held_are = e ∙ k.held_are;
      own_is = k.own_is;
    }

pub collected : {text rows rows' signs signs' : List ℕ} {n own at r : ℕ} {c : Common} {rs : List Rule} {names : Names} {left : List Word} {os : List OpenRule} → Known text rows n own c rs names
    → PairsDone text rows signs n own at rows' signs' r → RulesIn (words_at text at) left rs → (peek left).kind ≡ 266
    → open_all (together c rs) names (open_rules c.listed rs) [] rs ≡ good os → Collected text rows' signs' n own (pairs_of rs) r
collected {rs = rs} {left = left} {os} k p i e o = p.done rs left i e (opens-ordered k.agrees [] rs os o)
