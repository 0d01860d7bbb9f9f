-- What a text that the syntax pass reads through has: the laws follow the readers, one by one.
use mathlib.Core.Bool.{Bool, true, false, ◌||◌}
use mathlib.Core.List.{List, [], ◌∷◌}
use mathlib.Core.Option.{Option}
use mathlib.Core.Path.{◌≡◌, refl}
use Prim.Native.Char.{code}
use Prim.Native.Nat.{ℕ, zero, suc, ◌+◌, ◌-◌, ◌<◌, ◌≤◌, max, min}
use lib.Dec.{eqb, ltb}
use lib.ListN.{length}
use borrow.Author.Tests.{ltb-false, eqb-false}
use native.Mathlib.Omega.{arith}
use Rattle.acceptance.proofs.ReadLaws.{Gives, Any, any, no-got, bind, after, gives, refuses, either, on-kind, limited}
use Rattle.acceptance.proofs.Shape.{Each, Defaulted, Shaped, ShapedAll, ShapedAlts, ShapedOther, ShapedChoices, NotEmpty, InRange, OfKind, Ranked, SectionOk, WrittenOk}
use Rattle.base.proofs.Laws.{neither, above_zero}
use Rattle.std.specs.Prelude.{if◌then◌else◌}
use Rattle.base.specs.Common.{bytes, given}
use Rattle.base.specs.Tree.{plain, cycle, choice, done, ◌▸◌, nil, alternative, absent, otherwise}
use Rattle.syntax.proofs.Ahead.{kinds-read, room-left}
use Rattle.syntax.specs.Actions.{a_plain, a_selector, a_label, some_labels, closes, a_cycle, a_choice, an_action, an_otherwise, an_alternative, actions, alternatives}
use Rattle.syntax.specs.Parse.{a_rule, some_rules, program, parse, end_of}
use Rattle.syntax.specs.Reading.{Read, got, fault, Reader, onward, ◌>>=◌, ◌>>◌, pure, peek, pass, refuse, over, on◌then◌else◌, expect, a_name, one_name, small, a_number, optional, name_or_string}
use Rattle.syntax.specs.Sections.{a_spelling, a_count, an_entry, entries, first_of, of_kind, kind_ahead, is_full, a_parameter, numbered, an_operation, some_operations, Sofar, nothing, after as after_section, token_section, a_section, Sections, some_sections, spells, ranking, a_level, a_side, an_operator, some_operators, operator_section, mechanism_section, other_section}
use Rattle.syntax.specs.Written.{Acts, Alts, Other, Choices, Entry, Operation, Section, inputs, outputs, both, errors, values, operations, Rule, Program, Operator, operators}
use Rattle.words.specs.Words.{Word, words, last, twice, name, number, input, output, error, type, mechanism, rules, end, value}

-- Entries

small-in : Gives (λ n. n < 65536) small
unfolding small over onward
small-in ws a rest e = go (ltb 65535 (value 0 (peek ws).text)) refl e
  where
    got_in : (r : Read Word) → value 0 (peek ws).text < 65536 → onward r (λ w. pure (value 0 (peek ws).text)) ≡ got a rest → a < 65536
    got_in (got w more) h d = let x : value 0 (peek ws).text ≡ a = cc in omega arith
    got_in (fault n w) h d = no-got d

    go : (t : Bool) → ltb 65535 (value 0 (peek ws).text) ≡ t
        → (if t then over ws else onward (pass ws) (λ w. pure (value 0 (peek ws).text))) ≡ got a rest → a < 65536
    go true t e₁ = no-got e₁
    go false t e₁ = let h = ltb-false 65535 (value 0 (peek ws).text) t in got_in (pass ws) (omega arith) e₁

number_in : Gives (λ n. n < 65536) a_number
unfolding a_number
number_in = on-kind (λ n. n < 65536) number small refuse small-in (refuses (λ n. n < 65536))

count-in : (w : Word) (v : ℕ) → Gives (λ n. n < 65536) (a_count w v)
unfolding a_count
count-in w v =
    on-kind (λ n. n < 65536) (code "=") (◌>>◌ pass a_number) (λ ws. if ltb 65535 v then fault 9 w else got v ws)
    (after (λ n. n < 65536) pass a_number number_in)
    (λ ws a rest e. go ws a rest (ltb 65535 v) refl e)
  where
    go : (ws : List Word) (a : ℕ) (rest : List Word) (t : Bool) → ltb 65535 v ≡ t → (if t then fault 9 w else got v ws) ≡ got a rest → a < 65536
    go ws a rest true t e = no-got e
    go ws a rest false t e = let h = ltb-false 65535 v t in let x : v ≡ a = cc in omega arith

entry_in : (left : ℕ) (strings : Bool) (v : ℕ) → Gives InRange (an_entry left strings v)
unfolding an_entry
entry_in left strings v =
    bind InRange Any (one_name left) _ (any (one_name left)) (λ w _.
    bind InRange Any (a_spelling strings) _ (any (a_spelling strings)) (λ s _.
    bind InRange (λ n. n < 65536) (a_count w v) _ (count-in w v) (λ n h.
    gives InRange (record { entry = w; spelt = s; value = n }) h)))

entries-in : (k left : ℕ) (strings : Bool) (v : ℕ) → Gives (Each InRange) (entries k left strings v)
unfolding entries Each
entries-in zero left strings v = refuses (Each InRange)
entries-in (suc k) left strings v =
    bind (Each InRange) InRange (an_entry left strings v) _ (entry_in left strings v) (λ e h.
    bind (Each InRange) (Each InRange) (on code ";" then (◌>>◌ pass (pure [])) else entries k (left - 1) strings (e.value + 1)) _
    (on-kind (Each InRange) (code ";") (◌>>◌ pass (pure [])) (entries k (left - 1) strings (e.value + 1)) (after (Each InRange) pass (pure []) (gives (Each InRange) [] tt)) (entries-in k (left - 1) strings (e.value + 1)))
    (λ more hs. gives (Each InRange) (e ∷ more) (h, hs)))

-- Operations

numbered-ok : (w : Word) (seen : List ℕ) (ws rest : List Word) (o : Operation) → is_full (kind_ahead ws) seen ≡ false → numbered w seen ws ≡ got o rest → OfKind o
unfolding numbered onward
numbered-ok w seen ws rest o u e = outer (a_parameter ws) refl e
  where
    made : Option Word → Option Word → Operation
    made t g = let b = first_of (given t) (given g) in record { operation = w; takes = t; gives = g; instruction = b + of_kind b seen }

    made_ok : (t g : Option Word) → of_kind (first_of (given t) (given g)) seen < 256 → OfKind (made t g)
    made_ok t g h = record { low = omega arith; high = omega arith }

    inner : (t : Option Word) (vs : List Word) → a_parameter ws ≡ got t vs → (r : Read (Option Word)) → optional twice a_name vs ≡ r
        → onward r (λ g. pure (made t g)) ≡ got o rest → OfKind o
    inner t vs c (got g more) d e₁ =
        let x : made t g ≡ o = cc in rw x at (made_ok t g (room-left seen (kind_ahead ws) (first_of (given t) (given g)) (kinds-read ws vs more t g c d) u))
    inner t vs c (fault m v) d e₁ = no-got e₁

    outer : (r : Read (Option Word)) → a_parameter ws ≡ r → onward r (λ t. (◌>>=◌ (optional twice a_name) (λ g. pure (made t g)))) ≡ got o rest → OfKind o
    outer (got t vs) d e₁ = inner t vs d (optional twice a_name vs) refl e₁
    outer (fault m v) d e₁ = no-got e₁

operation-ok : (left : ℕ) (seen : List ℕ) → Gives OfKind (an_operation left seen)
unfolding an_operation
operation-ok left seen = bind OfKind Any (one_name left) _ (any (one_name left)) (λ w _ ws o rest e. go w ws o rest (is_full (kind_ahead ws) seen) refl e)
  where
    go : (w : Word) (ws : List Word) (o : Operation) (rest : List Word) (t : Bool) → is_full (kind_ahead ws) seen ≡ t
        → (if t then (λ _. fault 9 w) else numbered w seen) ws ≡ got o rest → OfKind o
    go w ws o rest true u e = no-got e
    go w ws o rest false u e = numbered-ok w seen ws rest o u e

operations-ok : (k left : ℕ) (seen : List ℕ) → Gives (Each OfKind) (some_operations k left seen)
unfolding some_operations Each
operations-ok zero left seen = refuses (Each OfKind)
operations-ok (suc k) left seen =
    bind (Each OfKind) OfKind (an_operation left seen) _ (operation-ok left seen) (λ o h.
    bind (Each OfKind) (Each OfKind) (on code ";" then (◌>>◌ pass (pure [])) else some_operations k (left - 1) (o.instruction ∷ seen)) _
    (on-kind (Each OfKind) (code ";") (◌>>◌ pass (pure [])) (some_operations k (left - 1) (o.instruction ∷ seen)) (after (Each OfKind) pass (pure []) (gives (Each OfKind) [] tt)) (operations-ok k (left - 1) (o.instruction ∷ seen)))
    (λ more hs. gives (Each OfKind) (o ∷ more) (h, hs)))

-- Operators

abbrev Level : ℕ → Type 0
Level n = (1 ≤ n) × (n ≤ 15)

ranking-in : Gives Level ranking
unfolding ranking over onward
ranking-in ws a rest e = go (eqb n 0 || ltb 15 n) refl e
  where
    n : ℕ
    n = value 0 (peek ws).text

    got_in : (r : Read Word) → Level n → onward r (λ w. pure n) ≡ got a rest → Level a
    got_in (got w more) h d = let x : n ≡ a = cc in rw x at h
    got_in (fault m w) h d = no-got d

    go : (t : Bool) → (eqb n 0 || ltb 15 n) ≡ t → (if t then over ws else onward (pass ws) (λ w. pure n)) ≡ got a rest → Level a
    go true t e₁ = no-got e₁
    go false t e₁ =
        let h = neither (eqb n 0) (ltb 15 n) t in
        got_in (pass ws) (above_zero n (eqb-false n 0 h.0), ltb-false 15 n h.1) e₁

level_in : Gives Level a_level
unfolding a_level
level_in = on-kind Level number ranking refuse ranking-in (refuses Level)

operator-in : Gives Ranked an_operator
unfolding an_operator
operator-in =
    bind Ranked Any name_or_string _ (any name_or_string) (λ t _.
    bind Ranked Level a_level _ level_in (λ l h.
    bind Ranked Any a_side _ (any a_side) (λ s _.
    bind Ranked Any name_or_string _ (any name_or_string) (λ o _.
    gives Ranked (record { token = t; level = l; right = s; emits = o }) h))))

abbrev SomeRanked : List Operator → Type 0
SomeRanked os = NotEmpty os × Each Ranked os

operators_in : (k : ℕ) → Gives SomeRanked (some_operators k)
unfolding some_operators Each NotEmpty
operators_in zero = refuses SomeRanked
operators_in (suc k) =
    bind SomeRanked Ranked an_operator _ operator-in (λ o h.
    bind SomeRanked (Each Ranked) (on code ";" then (◌>>◌ pass (pure [])) else some_operators k) _
    (on-kind (Each Ranked) (code ";") (◌>>◌ pass (pure [])) (some_operators k) (after (Each Ranked) pass (pure []) (gives (Each Ranked) [] tt)) (λ ws a rest e. (operators_in k ws a rest e).1))
    (λ more hs. gives SomeRanked (o ∷ more) (tt, (h, hs))))

-- Sections

-- a colon, entries, and a section made of them
section-of : (k left : ℕ) (strings : Bool) (v : ℕ) (make : List Entry → Section) → ((es : List Entry) → Each InRange es → SectionOk (make es))
    → Gives SectionOk (◌>>◌ (expect (code ":")) (◌>>=◌ (entries k left strings v) (λ es. pure (make es))))
section-of k left strings v make h =
    after SectionOk (expect (code ":")) _ (bind SectionOk (Each InRange) (entries k left strings v) _ (entries-in k left strings v) (λ es hs. gives SectionOk (make es) (h es hs)))

tokens-ok : (k : ℕ) (s : Sofar) → Gives SectionOk (token_section k s)
unfolding token_section SectionOk
tokens-ok k s =
    on-kind SectionOk output _ _
    (after SectionOk pass _ (section-of k s.left true (max s.input s.output) both (λ es h. h)))
    (section-of k s.left true s.input inputs (λ es h. h))

operators-section : (k : ℕ) (s : Sofar) → Gives SectionOk (operator_section k s)
unfolding operator_section SectionOk
operators-section k s =
    bind SectionOk Any (one_name s.left) _ (any (one_name s.left)) (λ w _.
    after SectionOk (expect (code ":")) _
    (bind SectionOk SomeRanked (some_operators k) _ (operators_in k) (λ os h. gives SectionOk (operators w os) h)))

mechanism-section : (k : ℕ) (s : Sofar) → Gives SectionOk (mechanism_section k s)
unfolding mechanism_section SectionOk
mechanism-section k s =
    after SectionOk (expect mechanism) _ (after SectionOk a_name _ (after SectionOk (expect (code ":")) _
    (bind SectionOk (Each OfKind) (some_operations k s.left s.seen) _ (operations-ok k s.left s.seen) (λ os h. gives SectionOk (operations os) h))))

section-ok : (k : ℕ) (s : Sofar) → Gives SectionOk (a_section k s)
unfolding a_section other_section SectionOk
section-ok k s =
    on-kind SectionOk input _ _ (after SectionOk pass _ (tokens-ok k s))
    (on-kind SectionOk output _ _ (after SectionOk pass _ (section-of k s.left true s.output outputs (λ es h. h)))
    (on-kind SectionOk error _ _ (after SectionOk pass _ (section-of k s.left false s.error errors (λ es h. h)))
    (on-kind SectionOk type _ _ (after SectionOk pass _ (bind SectionOk Any (one_name s.left) _ (any (one_name s.left)) (λ w _. section-of k (s.left - 1) false 0 (values w) (λ es h. h))))
    (λ ws a rest e. either SectionOk (spells (bytes "operators") ws) (◌>>◌ pass (operator_section k s)) (mechanism_section k s) (after SectionOk pass _ (operators-section k s)) (mechanism-section k s) ws a rest e))))

abbrev pub AllOk : Sections → Type 0
AllOk x = Each SectionOk x.sections

pub sections-ok : (k : ℕ) (s : Sofar) → Gives AllOk (some_sections k s)
unfolding some_sections Each
sections-ok zero s = refuses AllOk
sections-ok (suc k) s =
    on-kind AllOk rules _ _ (gives AllOk (record { sections = []; left = s.left }) tt)
    (bind AllOk SectionOk (a_section k s) _ (section-ok k s) (λ x h.
    bind AllOk AllOk (some_sections k (after_section s x)) _ (sections-ok k (after_section s x)) (λ more hs.
    gives AllOk (record { sections = x ∷ more.sections; left = more.left }) (h, hs))))

-- Actions

labels-ok : (k room : ℕ) → Gives NotEmpty (some_labels k room)
unfolding some_labels NotEmpty
labels-ok zero room = refuses NotEmpty
labels-ok (suc k) room =
    bind NotEmpty Any (a_label room) _ (any (a_label room)) (λ w _.
    bind NotEmpty Any (on code "," then (◌>>◌ pass (some_labels k (room - 1))) else pure []) _ (any _) (λ more _.
    gives NotEmpty (w ∷ more) tt))

cycle-ok : (inner : Reader Acts) → Gives ShapedAll inner → Gives Shaped (a_cycle inner)
unfolding a_cycle Shaped
cycle-ok inner h = bind Shaped ShapedAll inner _ h (λ b hb. after Shaped (expect (code "}")) _ (gives Shaped (cycle b) hb))

choice-ok : (choices : Reader Choices) → Gives ShapedChoices choices → Gives Shaped (a_choice choices)
unfolding a_choice Shaped
choice-ok choices h =
    bind Shaped Any a_selector _ (any a_selector) (λ s _.
    after Shaped (expect (code "|")) _
    (bind Shaped ShapedChoices choices _ h (λ c hc. gives Shaped (choice s c.labelled c.default) (hc.labelled, hc.default, hc.defaulted))))

action-ok : (inner : ℕ → Reader Acts) (choices : ℕ → Reader Choices) (left : ℕ) → ((n : ℕ) → Gives ShapedAll (inner n)) → ((n : ℕ) → Gives ShapedChoices (choices n))
    → Gives Shaped (an_action inner choices left)
unfolding an_action Shaped
action-ok inner choices left h hc =
    on-kind Shaped (code "{") _ _ (limited Shaped left _ (after Shaped pass _ (cycle-ok (inner (left - 1)) (h (left - 1)))))
    (on-kind Shaped (code "[") _ _ (limited Shaped left _ (after Shaped pass _ (choice-ok (choices (left - 1)) (hc (left - 1)))))
    (bind Shaped Any a_plain _ (any a_plain) (λ p _. gives Shaped (plain p) tt)))

otherwise-ok : (inner : Reader Acts) → Gives ShapedAll inner → Gives ShapedChoices (an_otherwise inner)
unfolding an_otherwise Shaped Defaulted
otherwise-ok inner h =
    after ShapedChoices (expect (code ":")) _
    (bind ShapedChoices ShapedAll inner _ h (λ b hb.
    after ShapedChoices (expect (code "]")) _ (gives ShapedChoices (record { labelled = nil; default = otherwise b }) (record { labelled = tt; default = hb; defaulted = tt }))))

-- what follows an alternative: more of them, or the end of the choice
abbrev Later : Choices → Type 0
Later c = ShapedAlts c.labelled × ShapedOther c.default

defaulted : (o : Other) (ls : List Word) (b : Acts) (q : Alts) → NotEmpty ls → Defaulted o (alternative ls b q)
unfolding Defaulted NotEmpty
defaulted absent [] b q h = h
defaulted absent (w ∷ ws) b q h = tt
defaulted (otherwise d) ls b q h = tt

alternative-ok : (k room : ℕ) (inner : Reader Acts) (more : ℕ → Reader Choices) → Gives ShapedAll inner → ((n : ℕ) → Gives ShapedChoices (more n))
    → Gives ShapedChoices (an_alternative k room inner more)
unfolding an_alternative Shaped
alternative-ok k room inner more h hm =
    bind ShapedChoices NotEmpty (some_labels k room) _ (labels-ok k room) (λ ls hl.
    after ShapedChoices (expect (code ":")) _
    (bind ShapedChoices ShapedAll inner _ h (λ b hb.
    bind ShapedChoices Later
    (on code "|" then (◌>>◌ pass (more (room - length ls))) else (◌>>◌ (expect (code "]")) (pure (record { labelled = nil; default = absent })))) _
    (on-kind Later (code "|") _ _
    (after Later pass _ (λ ws c rest e. let x = hm (room - length ls) ws c rest e in (x.labelled, x.default)))
    (after Later (expect (code "]")) _ (gives Later (record { labelled = nil; default = absent }) (tt, tt))))
    (λ c hc. gives ShapedChoices (record { labelled = alternative ls b c.labelled; default = c.default })
    (record { labelled = (hb, hc.0); default = hc.1; defaulted = defaulted c.default ls b c.labelled hl })))))

mutual
  unfolding actions Shaped

  actions-ok : (k left : ℕ) → Gives ShapedAll (actions k left)
  actions-ok zero left = refuses ShapedAll
  actions-ok (suc k) left = λ ws a rest e.
      either ShapedAll (closes (peek ws).kind) (pure done) _ (gives ShapedAll done tt)
      (bind ShapedAll Shaped (an_action (λ l ws. actions k l ws) (λ l ws. alternatives k l 64 ws) left) _
      (action-ok (λ l ws. actions k l ws) (λ l ws. alternatives k l 64 ws) left (λ n. actions-ok k n) (λ n. alternatives-ok k n 64))
      (λ x hx. bind ShapedAll ShapedAll (actions k left) _ (actions-ok k left) (λ q hq. gives ShapedAll (x ▸ q) (hx, hq)))) ws a rest e

  alternatives-ok : (k left room : ℕ) → Gives ShapedChoices (alternatives k left room)
  alternatives-ok zero left room = refuses ShapedChoices
  alternatives-ok (suc k) left room =
      on-kind ShapedChoices (code "*") _ _ (after ShapedChoices pass _ (otherwise-ok (λ ws. actions k left ws) (actions-ok k left)))
      (alternative-ok k room (λ ws. actions k left ws) (λ n ws. alternatives k left n ws) (actions-ok k left) (λ n. alternatives-ok k left n))

-- Rules

abbrev pub RuleOk : Rule → Type 0
RuleOk r = ShapedAll r.body

rule-ok : (k left : ℕ) → Gives RuleOk (a_rule k left)
unfolding a_rule
rule-ok k left =
    bind RuleOk Any (one_name left) _ (any (one_name left)) (λ w _.
    bind RuleOk Any (optional twice a_name) _ (any (optional twice a_name)) (λ g _.
    after RuleOk (expect (code ":")) _
    (bind RuleOk ShapedAll (actions k 32) _ (actions-ok k 32) (λ b h.
    bind RuleOk Any (expect (code ";")) _ (any (expect (code ";"))) (λ e _.
    gives RuleOk (record { rule = w; gives = g; body = b; closing = e }) h)))))

abbrev pub RulesOk : List Rule → Type 0
RulesOk rs = Each RuleOk rs × NotEmpty rs

pub rules-ok : (k left : ℕ) → Gives RulesOk (some_rules k left)
unfolding some_rules Each NotEmpty
rules-ok zero left = refuses RulesOk
rules-ok (suc k) left =
    bind RulesOk RuleOk (a_rule k left) _ (rule-ok k left) (λ r h.
    bind RulesOk (Each RuleOk) (on name then some_rules k (left - 1) else pure []) _
    (on-kind (Each RuleOk) name _ _ (λ ws a rest e. (rules-ok k (left - 1) ws a rest e).0) (gives (Each RuleOk) [] tt))
    (λ more hs. gives RulesOk (r ∷ more) ((h, hs), tt)))

program-ok : (k : ℕ) → Gives WrittenOk (program k)
unfolding program
program-ok k =
    bind WrittenOk AllOk (some_sections k nothing) _ (sections-ok k nothing) (λ s hs.
    after WrittenOk (expect rules) _
    (bind WrittenOk RulesOk (some_rules k (min 128 s.left)) _ (rules-ok k (min 128 s.left)) (λ rs hr.
    after WrittenOk (expect end) _
    (after WrittenOk (expect last) _ (gives WrittenOk (record { sections = s.sections; rules = rs }) (record { sections = hs; rules = hr.0; some_rule = hr.1 }))))))

pub parse-ok : (text : List ℕ) (p : Program) (rest : List Word) → parse text ≡ got p rest → WrittenOk p
unfolding parse
parse-ok text p rest e = go (ltb 32768 (length text)) e
  where
    go : (t : Bool) → (if t then fault 9 (end_of text) else program (length text + 1) (words text)) ≡ got p rest → WrittenOk p
    go true e₁ = no-got e₁
    go false e₁ = program-ok (length text + 1) (words text) p rest e₁
