-- A linked program is accepted, so that all that holds of accepted programs holds of it.
use mathlib.Core.Bool.{Bool}
use mathlib.Core.List.{List, [], ◌∷◌, ◌++◌, append-nil}
use mathlib.Core.Path.{◌≡◌, sym, ◌∙◌}
use native.Mathlib.Omega.{arith}
use Prim.Native.Nat.{ℕ, ◌+◌, ◌≤◌, min}
use lib.ListN.{length}
use Rattle.acceptance.proofs.Accepts.{understand-accepts}
use Rattle.acceptance.proofs.NamesOk.{each_append}
use Rattle.acceptance.proofs.Parsed.{AllOk, sections-ok, RuleOk, RulesOk, rules-ok}
use Rattle.acceptance.proofs.ReadLaws.{Gives, Any, any, bind, after, gives}
use Rattle.acceptance.proofs.Shape.{Each, NotEmpty, SectionOk, WrittenOk}
use Rattle.agreement.proofs.Theorem.{agrees, finishes-with}
use Rattle.figure.proofs.Battery.{figure-enough}
use Rattle.figure.specs.Told.{Told}
use Rattle.finishing.specs.Test.{finishing}
use Rattle.finishing.proofs.Exact.{finishing-sound, finishing-complete}
use Rattle.parts.specs.Promise.{Works, joined, one_text, Whole, ReadFrom, read_nil, read_cons, LinkedWorks}
use Rattle.program.specs.Accepted.{Accepted}
use Rattle.program.specs.Program as means
use Rattle.program.specs.Table.{table}
use Rattle.safety.proofs.Written.{program-taken}
use Rattle.syntax.specs.Parse.{some_rules}
use Rattle.syntax.specs.Reading.{got, expect}
use Rattle.syntax.specs.Sections.{nothing, some_sections}
use Rattle.syntax.specs.Texts.{Common, some_heads, a_common, a_part, read_common, read_part}
use Rattle.syntax.specs.Written.{Rule}
use Rattle.words.specs.Words.{Word, words, last, rules, end}

abbrev pub CommonOk : Common → Type 0
CommonOk c = Each SectionOk c.sections

pub common-ok : (k : ℕ) → Gives CommonOk (a_common k)
unfolding a_common
common-ok k =
    bind CommonOk AllOk (some_sections k nothing) _ (sections-ok k nothing) (λ s hs.
    after CommonOk (expect rules) _
    (bind CommonOk Any (some_heads k (min 128 s.left)) _ (any (some_heads k (min 128 s.left))) (λ heads _.
    after CommonOk (expect end) _
    (after CommonOk (expect last) _ (gives CommonOk (record { sections = s.sections; left = s.left; listed = heads }) hs)))))

pub part-ok : (k left : ℕ) → Gives RulesOk (a_part k left)
unfolding a_part
part-ok k left =
    after RulesOk (expect rules) _
    (bind RulesOk RulesOk (some_rules k (min 128 left)) _ (rules-ok k (min 128 left)) (λ rs h.
    after RulesOk (expect end) _
    (after RulesOk (expect last) _ (gives RulesOk rs h))))

not-empty : (rs ss : List Rule) → NotEmpty rs → NotEmpty (rs ++ ss)
unfolding NotEmpty
not-empty [] ss h = absurd h
not-empty (r ∷ rs) ss h = tt

joined-ok : {left : ℕ} {rss : List (List Rule)} → ReadFrom left rss → Each RuleOk (joined rss)
unfolding joined Each read_part
joined-ok read_nil = tt
joined-ok {left} (read_cons {rs = rs} {rss = rss} text rest e h) = each_append RuleOk rs (joined rss) (part-ok (length text + 1) left (words text) rs rest e).0 (joined-ok h)

joined-some : {left : ℕ} {rss : List (List Rule)} → ReadFrom left rss → 1 ≤ length rss → NotEmpty (joined rss)
unfolding joined read_part
joined-some read_nil l = absurd (omega (arith, l))
joined-some {left} (read_cons {rs = rs} {rss = rss} text rest e h) l = not-empty rs (joined rss) (part-ok (length text + 1) left (words text) rs rest e).1

-- the program that is linked is accepted
pub linked-accepted : (common_text : List ℕ) (c : Common) (rest : List Word) → read_common common_text ≡ got c rest → (rss : List (List Rule)) → ReadFrom c.left rss → 1 ≤ length rss
    → (room : ℕ) (words₁ : List ℕ) (verdict : Bool) (told : Told) (w : Whole c rss room words₁ verdict told) → Accepted w.prog
unfolding read_common
linked-accepted common_text c rest e rss h l room words₁ verdict told w =
    let ok : WrittenOk (one_text c rss) = record { sections = common-ok (length common_text + 1) (words common_text) c rest e; rules = joined-ok h; some_rule = joined-some h l } in
    understand-accepts (one_text c rss) ok w.prog w.means

-- what holds of accepted programs
pub accepted-works : (prog : List means.Rule) (words₁ : List ℕ) (verdict : Bool) → Accepted prog → words₁ ≡ table prog → verdict ≡ finishing prog → Works prog words₁ verdict
accepted-works prog words₁ verdict a e f = record {
  accepts = a;
  agrees = λ more tokens answers allowance. rw e (agrees prog more tokens answers allowance a);
  finishes = λ v. rw e (finishes-with prog a (finishing-sound prog (sym f ∙ v)));
  sound = λ v. finishing-sound prog (sym f ∙ v);
  complete = λ g. f ∙ finishing-complete prog g;
  taken = rw e (rw (append-nil (table prog)) at (program-taken prog [] a));
  enough = λ v q g. figure-enough prog a (finishing-sound prog (sym f ∙ v)) q g;
}

pub linked-works : LinkedWorks
linked-works common_text c rest e rss h l room words₁ verdict told w =
    accepted-works w.prog words₁ verdict (linked-accepted common_text c rest e rss h l room words₁ verdict told w) w.words_are w.verdict_is
