-- The one text of a common part and its parts is read as the common part's sections and the parts' rules.
use mathlib.Core.Bool.{false, false≢true}
use mathlib.Core.List.{List, [], ◌∷◌, ◌++◌}
use mathlib.Core.Path.{◌≡◌, refl, sym, ap, ◌∙◌}
use Prim.Native.Nat.{ℕ, suc, ◌+◌, ◌-◌, ◌≤◌, ◌<◌, min}
use lib.Dec.{eqb}
use lib.ListN.{length, take, drop, length-append, length-take, length-drop, take-append-drop}
use borrow.Author.Tests.{eqb-false, eq-eqb, ne_eqb, le-ltb}
use lib.Seq.{drop-append-le}
use native.Mathlib.Omega.{arith}
use Rattle.base.specs.Common.{bytes}
use Rattle.grammar.proofs.Laws.{From, bind, next, gives, expects, expects-kind}
use Rattle.grammar.proofs.ProgramIn.{rules-from}
use Rattle.grammar.proofs.SectionsIn.{peek-took}
use Rattle.grammar.specs.Derived.{Took, one_rule, RulesIn, last_rule, more_rules}
use Rattle.parts.proofs.JoinedRules.{further, chained}
use Rattle.parts.proofs.JoinedWords.{scan, late, behind-first}
use Rattle.parts.proofs.Moved.{inner, Ahead, at_rest, a_word, Again}
use Rattle.parts.proofs.MovedSections.{blank_all, some-sections}
use Rattle.parts.specs.Blank.{blank_sections, blank_rules, blank_program}
use Rattle.parts.specs.Joined.{first_word, behind, before, between, rules_text, joined_text, ReadsEach, reads_nil, reads_cons, JoinedReads}
use Rattle.parts.specs.Promise.{joined, ReadsAs}
use Rattle.syntax.specs.Texts.{Common, some_heads, a_common, a_part, read_common, read_part}
use Rattle.syntax.specs.Parse.{some_rules, program, parse}
use Rattle.syntax.specs.Reading.{got, onward, peek, pass, on◌then◌else◌, expect}
use Rattle.syntax.specs.Sections.{nothing, Sections, some_sections}
use Rattle.syntax.specs.Written.{Rule, Program}
use Rattle.words.specs.Words
use Rattle.words.specs.Words.{Word, words, words_from, last, bad, rules, end}

-- What was read of each text

record PartRead (ws : List Word) (rs : List Rule) : Type 0 where
  fuel : ℕ
  left : ℕ
  head : Word
  inside : List Word
  starts : Took 265 ws head inside
  close : Word
  rest : List Word
  reads : some_rules fuel left inside ≡ got rs (close ∷ rest)
  closes : close.kind ≡ 266

part-read : {ws : List Word} (k left : ℕ) → From ws (a_part k left) (λ _ rs. PartRead ws rs)
unfolding a_part
part-read k left =
    next (expect rules) _ (expects 265 refl) (λ ws₁ w t.
    bind {Q = λ ws₂ rs. some_rules k (min 128 left) ws₁ ≡ got rs ws₂} (some_rules k (min 128 left)) _ (record { holds = λ rest a e. e }) (λ ws₂ rs d.
    next (expect end) _ (expects 266 refl) (λ ws₃ v u.
    next (expect last) _ (expects-kind last) (λ ws₄ _ _.
    gives rs (record { fuel = k; left = min 128 left; head = w; inside = ws₁; starts = t; close = v; rest = ws₃; reads = d ∙ ap (got rs) u.here; closes = u.kind })))))

record CommonRead (k : ℕ) (ws : List Word) (c : Common) : Type 0 where
  all : Sections
  head : Word
  rest : List Word
  reads : some_sections k nothing ws ≡ got all (head ∷ rest)
  kind : head.kind ≡ 265
  sections-are : c.sections ≡ all.sections
  left_is : c.left ≡ all.left

common-read : {ws : List Word} (k : ℕ) → From ws (a_common k) (λ _ c. CommonRead k ws c)
unfolding a_common
common-read {ws} k =
    bind {Q = λ ws₁ s. some_sections k nothing ws ≡ got s ws₁} (some_sections k nothing) _ (record { holds = λ rest a e. e }) (λ ws₁ s d.
    next (expect rules) _ (expects 265 refl) (λ ws₂ w t.
    bind {Q = λ _ _. Unit {0}} (some_heads k (min 128 s.left)) _ (record { holds = λ rest a e. tt }) (λ ws₃ hs _.
    next (expect end) _ (expects-kind end) (λ ws₄ _ _.
    next (expect last) _ (expects-kind last) (λ ws₅ _ _.
    gives (record { sections = s.sections; left = s.left; listed = hs })
    (record { all = s; head = w; rest = ws₂; reads = d ∙ ap (got s) t.here; kind = t.kind; sections-are = refl; left_is = refl }))))))

-- The first word of a kind

first_found : {w : Word} {rest ws : List Word} (k : ℕ) → inner k ≡ false → w.kind ≡ k → Ahead (w ∷ rest) ws → first_word k ws ≡ w
unfolding first_word
first_found {w} k i e (at_rest d) = rw (d, eq-eqb w.kind k e)
first_found k i e (a_word {w = v} j h) = rw (ne_eqb v.kind k (λ d. false≢true (sym (ap inner d ∙ i) ∙ j))) (first_found k i e h)

-- Parts

-- the words of a part's rules, as bytes before the part's `end`
record Inside (t : List ℕ) (rs : List Rule) : Type 0 where
  place : ℕ
  behind-it : List ℕ
  fuel : ℕ
  left : ℕ
  close : Word
  rest : List Word
  starts : close.start ≡ place + length (between t)
  reads : some_rules fuel left (words_from 0 place (between t ++ behind-it)) ≡ got rs (close ∷ rest)
  closes : close.kind ≡ 266

not-kind : {n : ℕ} (k j : ℕ) → n ≡ k → eqb k j ≡ false → n ≡ j → ⊥
not-kind k j e d f = eqb-false k j d (sym e ∙ f)

between_is : (t : List ℕ) (head close : Word) → first_word rules (words t) ≡ head → first_word end (words t) ≡ close → between t ≡ drop (head.start + length head.text) (take close.start t)
unfolding between behind before
between_is t head close e f = rw (e, f)

-- the part of a text from q to p, and the rest
cut : (q p : ℕ) (t : List ℕ) → q ≤ p → p ≤ length t → drop q t ≡ drop q (take p t) ++ drop p t
cut q p t h g = ap (λ (l : List ℕ). drop q l) (sym (take-append-drop p t)) ∙ drop-append-le q (take p t) (drop p t) (simp length-take (omega arith))

inside_of : (t : List ℕ) (rs : List Rule) → PartRead (words t) rs → Inside t rs
unfolding inner
inside_of t rs r =
    let w = r.head in
    let v = r.close in
    let q = w.start + length w.text in
    let p = v.start in
    let words-in = behind-first t w r.inside (not-kind 265 last r.starts.kind refl) (not-kind 265 bad r.starts.kind refl) r.starts.here in
    let a = (chained r.fuel r.left r.inside rs (v ∷ r.rest) r.reads).ahead in
    let first = first_found 265 refl r.starts.kind (at_rest r.starts.here) in
    let second : first_word end (words t) ≡ v = ap (first_word end) r.starts.here ∙ skipped w r.inside r.starts.kind ∙ first_found 266 refl r.closes a in
    let l = late v r.rest (not-kind 266 last r.closes refl) 0 q (drop q t) (rw words-in at a) in
    let low = l.low in
    let high : p < q + (length t - q) = rw (length-drop q t) at l.high in
    let is = between_is t w v first second in
    let long : length (between t) ≡ p - q = ap (λ (x : List ℕ). length x) is ∙ length-drop q (take p t) ∙ ap (λ (n : ℕ). n - q) (length-take p t) ∙ omega arith in
    record {
      place = q;
      behind-it = drop p t;
      fuel = r.fuel;
      left = r.left;
      close = v;
      rest = r.rest;
      starts = omega arith;
      reads = ap (λ (x : List Word). some_rules r.fuel r.left x) (sym (words-in ∙ ap (λ (x : List ℕ). words_from 0 q x) (cut q p t (omega arith) (omega arith) ∙ ap (λ (x : List ℕ). x ++ drop p t) (sym is)))) ∙ r.reads;
      closes = r.closes;
    }
  where
    skipped : (w : Word) (ws : List Word) → w.kind ≡ 265 → first_word end (w ∷ ws) ≡ first_word end ws
    skipped w ws e = unfold first_word in (rw e refl)

-- the place of the last `end`
last-place : ℕ → List (List ℕ) → ℕ
last-place a [] = a
last-place a (t ∷ ts) = last-place (a + length (between t) + 1) ts

name-first : {ws rest : List Word} {rs : List Rule} → RulesIn ws rest rs → (peek ws).kind ≡ 257
name-first (last_rule (one_rule t g u b v) n) = ap (λ (w : Word). w.kind) (peek-took t) ∙ t.kind
name-first (more_rules (one_rule t g u b v) n m) = ap (λ (w : Word). w.kind) (peek-took t) ∙ t.kind

further-again : (k l : ℕ) {ws final : List Word} {rs : List Rule} → Again blank_rules (some_rules k l) ws rs final → Again blank_rules (further k l) ws rs final
unfolding on◌then◌else◌
further-again k l {ws} {final} o =
    let e = name-first ((rules-from k l).holds final o.value o.gives).rules_in in
    record { value = o.value; gives = rw (eq-eqb (peek ws).kind 257 e) o.gives; like = o.like }

-- a part's rules, and then what is read behind them
part-again : (t : List ℕ) (rs : List Rule) → Inside t rs → (a : ℕ) (z : List ℕ) (l₂ : ℕ) (more : List Rule) (final : List Word)
    → ((k l : ℕ) → length z ≤ k → l₂ ≤ l → Again blank_rules (further k l) (words_from 0 (a + length (between t) + 1) z) more final)
    → (k l : ℕ) → length (between t ++ 10 ∷ z) ≤ k → length rs + l₂ ≤ l → Again blank_rules (some_rules k l) (words_from 0 a (between t ++ 10 ∷ z)) (rs ++ more) final
part-again t rs i a z l₂ more final f k l h g =
    let ws = words_from 0 i.place (between t ++ i.behind-it) in
    let c = chained i.fuel i.left ws rs (i.close ∷ i.rest) i.reads in
    let s = scan i.close i.rest (not-kind 266 last i.closes refl) 0 i.place a (between t) i.behind-it z i.starts c.ahead in
    let n = s.count in
    let b = length-append (between t) (10 ∷ z) in
    c.again (words_from 0 a (between t ++ 10 ∷ z)) (words_from 0 (a + length (between t) + 1) z) s.upto (length z) l₂ more final f k l (omega arith) g

inside-read : (left : ℕ) (t : List ℕ) (rs : List Rule) (rest : List Word) → read_part left t ≡ got rs rest → Inside t rs
unfolding read_part
inside-read left t rs rest e = inside_of t rs ((part-read (length t + 1) left).holds rest rs e)

-- the rules of all parts, from a part on whose rules are followed by those of the others
abbrev ReadOn : ℕ → List (List ℕ) → List (List Rule) → Type 0
ReadOn a ts rss = (k l : ℕ) → length (rules_text ts) ≤ k → length (joined rss) ≤ l → Again blank_rules (further k l) (words_from 0 a (rules_text ts)) (joined rss) (words_from 0 (last-place a ts) (rules_text []))

first_part : (t : List ℕ) (ts : List (List ℕ)) (rs : List Rule) (rss : List (List Rule)) (a : ℕ) → Inside t rs → ReadOn (a + length (between t) + 1) ts rss → (k l : ℕ) → length (rules_text (t ∷ ts)) ≤ k → length (joined (rs ∷ rss)) ≤ l
    → Again blank_rules (some_rules k l) (words_from 0 a (rules_text (t ∷ ts))) (joined (rs ∷ rss)) (words_from 0 (last-place a (t ∷ ts)) (rules_text []))
unfolding rules_text joined last-place
first_part t ts rs rss a i f k l h g = part-again t rs i a (rules_text ts) (length (joined rss)) (joined rss) _ f k l h (let b = length-append rs (joined rss) in omega arith)

parts_again : (left : ℕ) {ts : List (List ℕ)} {rss : List (List Rule)} → ReadsEach left ts rss → (a : ℕ) → ReadOn a ts rss
unfolding rules_text joined last-place
parts_again left reads_nil a k l h g = record { value = []; gives = unfold Words.opened on◌then◌else◌ peek in refl; like = refl }
parts_again left (reads_cons {t = t} {ts = ts} {rs = rs} {rss = rss} rest e r) a k l h g =
    further-again k l (first_part t ts rs rss a (inside-read left t rs rest e) (λ k' l' h' g'. parts_again left r (a + length (between t) + 1) k' l' h' g') k l h g)

rules-again : (left : ℕ) {ts : List (List ℕ)} {rss : List (List Rule)} → ReadsEach left ts rss → 1 ≤ length rss → (a k l : ℕ) → length (rules_text ts) ≤ k → length (joined rss) ≤ l
    → Again blank_rules (some_rules k l) (words_from 0 a (rules_text ts)) (joined rss) (words_from 0 (last-place a ts) (rules_text []))
rules-again left reads_nil some a k l h g = absurd (omega arith)
rules-again left (reads_cons {t = t} {ts = ts} {rs = rs} {rss = rss} rest e r) some a k l h g = first_part t ts rs rss a (inside-read left t rs rest e) (parts_again left r (a + length (between t) + 1)) k l h g

-- The whole text

before-is : (t : List ℕ) (w : Word) → first_word rules (words t) ≡ w → before rules t ≡ take w.start t
unfolding before
before-is t w e = rw e

-- the sections of the common part, read before `rules` and whatever stands behind it
sections-again : (common : List ℕ) (c : Common) (k : ℕ) (r : CommonRead k (words common) c) (z : List ℕ) (k' : ℕ) → length (before rules common) < k' → (peek (words_from 0 (length (before rules common) + 1) z)).kind ≡ 265
    → Again blank_all (some_sections k' nothing) (words (before rules common ++ 10 ∷ z)) r.all (words_from 0 (length (before rules common) + 1) z)
unfolding inner words
sections-again common c k r z k' h e =
    let w = r.head in
    let p = (some-sections k k' nothing (words common)).carries r.all (w ∷ r.rest) r.reads in
    let not_last = not-kind 265 last r.kind refl in
    let l = late w r.rest not_last 0 0 common p.ahead in
    let high = l.high in
    let is = before-is common w (first_found 265 refl r.kind p.ahead) in
    let long : length (before rules common) ≡ w.start = ap (λ (x : List ℕ). length x) is ∙ length-take w.start common ∙ omega arith in
    let whole : common ≡ before rules common ++ drop w.start common = sym (take-append-drop w.start common) ∙ ap (λ (x : List ℕ). x ++ drop w.start common) (sym is) in
    let a : Ahead (w ∷ r.rest) (words_from 0 0 (before rules common ++ drop w.start common)) = rw (← whole) p.ahead in
    let n : 0 + length (before rules common) + 1 ≡ length (before rules common) + 1 = omega arith in
    let s = rw (← whole, n) at (scan w r.rest not_last 0 0 0 (before rules common) (drop w.start common) z (omega arith) a) in
    let count = s.count in
    p.again (words (before rules common ++ 10 ∷ z)) _ s.upto (omega arith) (λ _. heads ∙ sym e)
  where
    heads : (peek (r.head ∷ r.rest)).kind ≡ 265
    heads = unfold peek in r.kind

rules-word : (at : ℕ) (z : List ℕ) → words_from 0 at (bytes "rules" ++ 10 ∷ z) ≡ record { kind = 265; start = at; text = bytes "rules" } ∷ words_from 0 (6 + at) z
unfolding Words.opened
rules-word at z = ap (λ (n : ℕ). record { kind = 265; start = at; text = bytes "rules" } ∷ words_from 0 n z) (six at)
  where
    six : (n : ℕ) → suc (suc (suc (suc (suc (suc n))))) ≡ 6 + n
    six n = omega arith

-- `end` and no word after it
record Ending (ws : List Word) : Type 0 where
  close : Word
  stop : Word
  is : ws ≡ close ∷ stop ∷ []
  closes : close.kind ≡ 266
  stops : stop.kind ≡ 1

end-words : (at : ℕ) → Ending (words_from 0 at (rules_text []))
unfolding Words.opened rules_text
end-words at = record { close = record { kind = 266; start = at; text = bytes "end" }; stop = record { kind = 1; start = suc (suc (suc (suc at))); text = [] }; is = refl; closes = refl; stops = refl }

program-read : (k : ℕ) (ws ws₁ ws₂ ws₃ : List Word) (s : Sections) (w : Word) (rs : List Rule) → some_sections k nothing ws ≡ got s ws₁ → ws₁ ≡ w ∷ ws₂ → w.kind ≡ 265
    → some_rules k (min 128 s.left) ws₂ ≡ got rs ws₃ → Ending ws₃ → program k ws ≡ got (record { sections = s.sections; rules = rs }) []
unfolding program expect on◌then◌else◌ onward pass peek
program-read k ws ws₁ ws₂ ws₃ s w rs a b c d x = rw (a, b, c, d, x.is, x.closes, x.stops)

common-was : (common : List ℕ) (c : Common) (rest : List Word) → read_common common ≡ got c rest → CommonRead (length common + 1) (words common) c
unfolding read_common
common-was common c rest e = (common-read (length common + 1)).holds rest c e

parse-read : (text : List ℕ) (p : Program) (rest : List Word) → length text ≤ 32768 → program (length text + 1) (words text) ≡ got p rest → parse text ≡ got p rest
unfolding parse
parse-read text p rest h e = rw (le-ltb 32768 (length text) h) e

reads_as : (text : List ℕ) (c : Common) (rss : List (List Rule)) (s : Sections) (rs : List Rule) → parse text ≡ got (record { sections = s.sections; rules = rs }) [] → blank_sections c.sections ≡ blank_sections s.sections
    → blank_rules (joined rss) ≡ blank_rules rs → ReadsAs text c rss
unfolding blank_program
reads_as text c rss s rs e p q = record { tree = record { sections = s.sections; rules = rs }; rest = []; reads = e; same_words = let p' = sym p in let q' = sym q in λ i. record { sections = p' i; rules = q' i } }

same_left : (x y : Sections) → blank_all x ≡ blank_all y → x.left ≡ y.left
unfolding blank_all
same_left x y e = ap (λ (z : Sections). z.left) e

same-sections : (x y : Sections) → blank_all x ≡ blank_all y → blank_sections x.sections ≡ blank_sections y.sections
unfolding blank_all
same-sections x y e = ap (λ (z : Sections). z.sections) e

pub joined-reads : JoinedReads
unfolding joined_text
joined-reads common parts c rest rss e r some short few =
    let u = before rules common in
    let z = bytes "rules" ++ 10 ∷ rules_text parts in
    let k = length (u ++ 10 ∷ z) + 1 in
    let long₁ = length-append u (10 ∷ z) in
    let long₂ = length-append (bytes "rules") (10 ∷ rules_text parts) in
    let was = common-was common c rest e in
    let head = rules-word (length u + 1) (rules_text parts) in
    let s = sections-again common c (length common + 1) was z k (omega arith) (ap (λ (ws : List Word). (peek ws).kind) head ∙ (unfold peek in refl)) in
    let left : c.left ≡ s.value.left = was.left_is ∙ same_left was.all s.value s.like in
    let p = rules-again c.left r some (6 + (length u + 1)) k (min 128 s.value.left) (omega arith) (rw left at few) in
    reads_as (u ++ 10 ∷ z) c rss s.value p.value
    (parse-read (u ++ 10 ∷ z) (record { sections = s.value.sections; rules = p.value }) [] short (program-read k (words (u ++ 10 ∷ z)) _ _ _ s.value _ p.value s.gives head refl p.gives (end-words _)))
    (ap blank_sections was.sections-are ∙ same-sections was.all s.value s.like) p.like
