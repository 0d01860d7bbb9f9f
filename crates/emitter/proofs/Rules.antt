-- The rules one after the other: their locations and words, and the lent bytes. Assumes nothing.
use Prim.Native.Nat.{ℕ, suc, ◌+◌, ◌*◌, ◌-◌, ◌/◌, ◌<◌, ◌≤◌, min}
use mathlib.Core.Path.{◌≡◌, refl, sym, ap, ◌∙◌, subst}
use mathlib.Core.Bool.{Bool, true, false, and-false}
use mathlib.Core.List.{List, [], ◌∷◌, ◌++◌, append_assoc, append-nil}
use mathlib.Core.Logic.{◌⊎◌, inl, inr}
use native.Mathlib.Omega.{arith}
use lib.Dec.{eqb, ltb, leb}
use lib.ListN.{length, get_or, set, take, drop, replicate, length-append, length-set, length-replicate, length-drop, take-append-drop}
use lib.Seq.{get_or-set_same, get_or-set_other, ext_get_or, drop-append-add, drop-drop, drop-append-le, length-take-le}
use borrow.Author.Tests.{ltb-true, ltb-false, eqb-true, eqb-false, le-leb, lt-leb}
use Rattle.base.proofs.Laws.{lt-or-le, zeros-at}
use Rattle.program.specs.Program.{Rule}
use Rattle.program.specs.Table.{end_words, size_rule, size_rules, place, table}
use Rattle.program.proofs.Lengths.{length-table}
use Rattle.program.proofs.Places.{place-first, place-fits}
use Rattle.machine.specs.Bytes.{count, bytes_of}
use Rattle.chains.specs.Marks.{Target, outside, rule, Mark, known, waiting, knowns, close, marks_all, marks_rule, marks_rules, solved}
use Rattle.chains.specs.Chain.{Chain, places, patched, newest, Waiting, At, Fixed, fixed_known, fixed_call, placed}
use Rattle.chains.proofs.Lists.{at_in, at_split, Behind, at_some, places-append, length-patched, patched-at, patched-kept, known-waits, waits-ne, length-filled, length-knowns}
use Rattle.chains.proofs.Grows.{chain-fill}
use Rattle.chains.proofs.Solves.{length-marks_rule, length-marks_rules, length-solved, solved-known, solved-call, solved-rules}
use Rattle.emitter.specs.Words.{words, puts}
use Rattle.emitter.specs.Heads.{anchor}
use Rattle.emitter.specs.Stands.{IsAll}
use Rattle.emitter.specs.Work.{Done, Emitted, Extended, ListDone, PatchDone}
use Rattle.emitter.specs.Emitted.{CellsOf, sort_of, fits, emitted_words, emitted_bytes, fault_of, EmitDone, IsRules, rules_more, RuleDone, PlaceDone, RulesDone}
use Rattle.emitter.proofs.Laws.{length-puts}
use Rattle.emitter.proofs.Bytes.{puts-eq, whole}
use Rattle.emitter.proofs.Link.{program-stands}
use Rattle.emitter.proofs.Emits.{emitted-join, emitted-known, emitted-close}
use Rattle.emitter.proofs.Waits.{Calls, calls, rules-only}

-- One rule

nothing : (s : List ℕ) (i : ℕ) → s ≡ puts s i []
unfolding puts
nothing s i = refl

rule_end : (v : Bool) (sort : ℕ) → sort ≡ 0 → sort ≡ sort_of v → end_words v ≡ 9 ∷ []
unfolding sort_of end_words
rule_end true sort h e = absurd (omega arith)
rule_end false sort h e = refl

rule-open : (v : Bool) (sort : ℕ) → (sort ≡ 0 → ⊥) → sort ≡ sort_of v → end_words v ≡ []
unfolding sort_of end_words
rule-open true sort h e = refl
rule-open false sort h e = absurd (h e)

rule-done : (cs : List ℕ) (p : ℕ) (old mid row new : List ℕ) (at : ℕ) (slots more : List ℕ) (q l y n : ℕ) (b : Rule) (e : ℕ) (ws : List ℕ) (l' : ℕ) → n ≤ length slots → IsAll cs n p e b.body → ListDone cs p old mid at 0 slots more q l y → PatchDone mid row y l 1 → end_words b.valued ≡ ws → new ≡ puts row l ws → l' ≡ l + length ws
    → Done (marks_rule b) e old new at 0 slots more q l' 0
unfolding ListDone marks_rule
rule-done cs p old mid row new at slots more q l y n b e ws l' m h d u E w z =
    let v = d n b.body e m h in
    let C = emitted-close 0 v.emitted v.after u in
    let k = length-filled outside (λ k. k + 1) (marks_all b.body) in
    let J = emitted-join C (emitted-known ws {x = 0} (λ i. w)) (v.after ∙ ap (λ (i : ℕ). at + i) (sym k)) in
    let k2 = length-append (close outside (marks_all b.body)) (knowns ws) in
    let k3 = length-knowns ws in
    subst (λ (i : List ℕ). Done (close outside (marks_all b.body) ++ knowns i) e old new at 0 slots more q l' 0) (sym E) (record { next = v.next; after = omega (arith, v.after); emitted = J })

pub rule-return : (cs : List ℕ) (p : ℕ) (old mid row new : List ℕ) (at : ℕ) (slots more : List ℕ) (q l y sort : ℕ) → ListDone cs p old mid at 0 slots more q l y → PatchDone mid row y l 1 → new ≡ puts row l (9 ∷ []) → sort ≡ 0 → RuleDone cs p old new at sort slots more q (l + 1)
unfolding RuleDone
rule-return cs p old mid row new at slots more q l y sort d u w z n b e m h x = rule-done cs p old mid row new at slots more q l y n b e (9 ∷ []) (l + 1) m h d u (rule_end b.valued sort z x) w refl

pub rule-none : (cs : List ℕ) (p : ℕ) (old mid row : List ℕ) (at : ℕ) (slots more : List ℕ) (q l y sort : ℕ) → ListDone cs p old mid at 0 slots more q l y → PatchDone mid row y l 1 → (sort ≡ 0 → ⊥) → RuleDone cs p old row at sort slots more q l
unfolding RuleDone
rule-none cs p old mid row at slots more q l y sort d u z n b e m h x = rule-done cs p old mid row row at slots more q l y n b e [] l m h d u (rule-open b.valued sort z x) (nothing row l) (omega arith)

-- All of them

-- the words of the rules before rule r, whose own location is not yet known
pub record Written (old out : List ℕ) (ms : List Mark) (slots : List ℕ) (r : ℕ) (prog : List Rule) : Type 0 where
  pub now : List ℕ
  pub wrote : out ≡ puts old 0 now
  pub long : length now ≡ length ms
  pub words : (i : ℕ) (m : Mark) (w : ℕ) → At ms i m → Fixed slots m w → get_or now i 0 ≡ w
  pub chains : (i : ℕ) → r ≤ i → i < length slots → Chain now (get_or slots i 0) (places (rule i) 0 ms)
  pub behind : (i : ℕ) → i < r → get_or slots i 0 ≡ placed + place 1 prog i
  pub ahead : (i : ℕ) → r ≤ i → get_or slots i 0 < placed

rule-eq : {i j : ℕ} → rule i ≡ rule j → i ≡ j
rule-eq e = cc

pub place-done : (slots more : List ℕ) (r n : ℕ) (old new : List ℕ) (at : ℕ) → more ≡ set slots r (placed + at + 1) → n ≡ get_or slots r 0 → PatchDone old new n (at + 1) 0 → PlaceDone slots more r old new at
unfolding PlaceDone
place-done slots more r n old new at e h d = (e, subst (λ (i : ℕ). PatchDone old new i (at + 1) 0) h d)

-- rule r is placed
module _ (old out mid : List ℕ) (ms : List Mark) (slots more : List ℕ) (r l : ℕ) (prog : List Rule) (w : Written old out ms slots r prog) (inside : r < length slots) (fits : length ms ≤ words old) (small : l + 1 < 65536) (d : PlaceDone slots more r out mid l) where
  abbrev placed-now : List ℕ
  placed-now = patched w.now (λ j. l + 1 - 0) (places (rule r) 0 ms)

  place-wrote : mid ≡ puts old 0 placed-now
  unfolding PlaceDone PatchDone anchor
  place-wrote = d.1 old w.now (places (rule r) 0 ms) w.wrote (omega (arith, w.long)) small (w.chains r (omega arith) inside)

  place_other : (i : ℕ) → (i ≡ r → ⊥) → get_or more i 0 ≡ get_or slots i 0
  unfolding PlaceDone
  place_other i h = ap (λ (s : List ℕ). get_or s i 0) d.0 ∙ get_or-set_other slots r i (placed + l + 1) 0 h

  place_here : get_or more r 0 ≡ placed + (l + 1)
  unfolding PlaceDone
  place_here = ap (λ (s : List ℕ). get_or s r 0) d.0 ∙ (get_or-set_same slots r (placed + l + 1) 0 inside ∙ omega arith)

  place-many : length more ≡ length slots
  unfolding PlaceDone
  place-many = ap length d.0 ∙ length-set slots r (placed + l + 1)

  -- what stood there before, by the slots afterwards
  place-word : {last : List ℕ} {i v : ℕ} {m : Mark} → ((s : ℕ) → placed ≤ get_or more s 0 → get_or last s 0 ≡ get_or more s 0) → ((s : ℕ) → get_or more s 0 < placed → get_or last s 0 < placed) → At ms i m → Fixed last m v → get_or placed-now i 0 ≡ v
  place-word {i = i} {v = v} k t a fixed_known = let z : 0 + i ≡ i = omega arith in ap (λ (j : ℕ). get_or placed-now j 0) (sym z) ∙ (patched-kept (λ j. l + 1 - 0) (rule r) w.now 0 a (known-waits (rule r) v) ∙ (ap (λ (j : ℕ). get_or w.now j 0) z ∙ w.words i (known v) v a fixed_known))
  place-word {last} {i = i} {v = v} k t a (fixed_call {r = s} e h) = by (eqb s r) refl (ltb (get_or slots s 0) placed) refl
    where
      by : (b : Bool) → eqb s r ≡ b → (c : Bool) → ltb (get_or slots s 0) placed ≡ c → get_or placed-now i 0 ≡ v
      by true q c x =
          let z : 0 + i ≡ i = omega arith in
          let Q : s ≡ r = eqb-true s r q in
          let A : At ms i (waiting (rule r)) = subst (λ (j : ℕ). At ms i (waiting (rule j))) Q a in
          let H : get_or last s 0 ≡ placed + (l + 1) = ap (λ (j : ℕ). get_or last j 0) Q ∙ (k r (omega (arith, place_here)) ∙ place_here) in
          ap (λ (j : ℕ). get_or placed-now j 0) (sym z) ∙ (patched-at (λ j. l + 1 - 0) (rule r) w.now 0 A (omega (arith, w.long)) ∙ omega arith)
      by false q true x = let N = eqb-false s r q in let y = ltb-true (get_or slots s 0) placed x in let z = t s (omega (arith, place_other s N)) in absurd (omega arith)
      by false q false x =
          let z : 0 + i ≡ i = omega arith in
          let N = eqb-false s r q in
          let y = ltb-false (get_or slots s 0) placed x in
          let o = place_other s N in
          let F : get_or slots s 0 ≡ placed + v = sym o ∙ (sym (k s (omega arith)) ∙ e) in
          ap (λ (j : ℕ). get_or placed-now j 0) (sym z) ∙ (patched-kept (λ j. l + 1 - 0) (rule r) w.now 0 a (waits-ne (rule r) (rule s) (λ g. N (rule-eq (sym g)))) ∙ (ap (λ (j : ℕ). get_or w.now j 0) z ∙ w.words i (waiting (rule s)) v a (fixed_call F h)))

fixed_back : {more last : List ℕ} {m : Mark} {v : ℕ} → ((s : ℕ) → placed ≤ get_or more s 0 → get_or last s 0 ≡ get_or more s 0) → ((s : ℕ) → get_or more s 0 < placed → get_or last s 0 < placed) → Fixed last m v → Fixed more m v
fixed_back k t fixed_known = fixed_known
fixed_back {more} {last} {v = v} k t (fixed_call {r = s} e h) = by (ltb (get_or more s 0) placed) refl
  where
    by : (c : Bool) → ltb (get_or more s 0) placed ≡ c → Fixed more (waiting (rule s)) v
    by true x = let z = t s (ltb-true (get_or more s 0) placed x) in absurd (omega arith)
    by false x = fixed_call (sym (k s (ltb-false (get_or more s 0) placed x)) ∙ e) h

-- and its words written
module _ (old out mid new : List ℕ) (ms ns : List Mark) (slots more last : List ℕ) (r l : ℕ) (prog : List Rule) (w : Written old out ms slots r prog) (inside : r < length slots) (is-l : l ≡ length ms) (fits : length ms + length ns ≤ words old) (small : length ms + length ns ≤ 4096) (here : l + 1 ≡ place 1 prog r)
    (d : PlaceDone slots more r out mid l) (g : Emitted ns mid new l 0 0 more last) where
  f : length ms ≤ words old
  f = omega arith

  s : l + 1 < 65536
  s = omega arith

  abbrev P : List ℕ
  P = placed-now old out mid ms slots more r l prog w inside f s d

  L : length P ≡ length ms
  L = length-patched w.now (λ j. l + 1 - 0) (places (rule r) 0 ms) ∙ w.long

  E : Extended ns old P new 0 0 more last
  E = g.grow old P (place-wrote old out mid ms slots more r l prog w inside f s d) (L ∙ sym is-l) (omega arith) (omega arith)

  o : (i : ℕ) → (i ≡ r → ⊥) → get_or more i 0 ≡ get_or slots i 0
  o = place_other old out mid ms slots more r l prog w inside f s d

  h : get_or more r 0 ≡ placed + (l + 1)
  h = place_here old out mid ms slots more r l prog w inside f s d

  c : length more ≡ length slots
  c = place-many old out mid ms slots more r l prog w inside f s d

  rule-word : (i : ℕ) (m : Mark) (v : ℕ) → Fixed last m v → (At ms i m) ⊎ Behind ms ns i m → get_or E.now i 0 ≡ v
  rule-word i m v x (inl a) = E.grown.before i (omega (arith, L, at_in a)) ∙ place-word old out mid ms slots more r l prog w inside f s d E.grown.kept E.grown.still a x
  rule-word i m v x (inr b) =
      let e : i ≡ length P + b.j = b.sum ∙ ap (λ (k : ℕ). k + b.j) (sym L) in
      ap (λ (k : ℕ). get_or E.now k 0) e ∙ E.grown.words b.j m v b.there (fixed_back E.grown.kept E.grown.still x)

  rule-behind : (i : ℕ) → i < r + 1 → (i < r) ⊎ (r ≤ i) → get_or last i 0 ≡ placed + place 1 prog i
  rule-behind i y (inl a) = let b = w.behind i a in let q = o i (λ q. omega arith) in E.grown.kept i (omega arith) ∙ (q ∙ b)
  rule-behind i y (inr a) =
      let z : i ≡ r = omega arith in
      ap (λ (k : ℕ). get_or last k 0) z ∙ (E.grown.kept r (omega (arith, h)) ∙ (h ∙ (ap (λ (k : ℕ). placed + k) here ∙ ap (λ (k : ℕ). placed + place 1 prog k) (sym z))))

  pub rule-written : Written old new (ms ++ ns) last (r + 1) prog
  unfolding newest Waiting
  rule-written = record {
    now = E.now;
    wrote = E.wrote;
    long = E.grown.long ∙ (ap (λ (i : ℕ). i + length ns) L ∙ sym (length-append ms ns));
    words = λ i m v a x. rule-word i m v x (at_split ms ns a);
    chains = λ i y z. (
        let n : i ≡ r → ⊥ = λ q. omega arith in
        let b : get_or more i 0 < placed = (let q = w.ahead i (omega arith) in omega (arith, o i n)) in
        let C : Chain P (get_or more i 0) (places (rule i) 0 ms) = subst (λ (k : ℕ). Chain P k (places (rule i) 0 ms)) (sym (o i n)) (chain-fill w.now (get_or slots i 0) (rule r) (rule i) (λ j. l + 1 - 0) 0 ms (λ q. n (rule-eq q)) (w.chains i (omega arith) (omega (arith, E.grown.many, c)))) in
        let D = E.grown.chains (rule i) (places (rule i) 0 ms) (omega (arith, E.grown.many), b) C in
        subst (λ (k : List ℕ). Chain E.now (get_or last i 0) k) (ap (λ (k : ℕ). places (rule i) k ns ++ places (rule i) 0 ms) (L ∙ omega arith) ∙ sym (places-append (rule i) 0 ms ns)) D);
    behind = λ i y. rule-behind i y (lt-or-le i r);
    ahead = λ i y. (let n : i ≡ r → ⊥ = λ q. omega arith in let q = w.ahead i (omega arith) in E.grown.still i (omega (arith, o i n)));
  }

-- what the loop has come to
pub record RulesRest (cs sorts : List ℕ) (rules : ℕ) (prog : List Rule) (old : List ℕ) (q l r : ℕ) (out slots : List ℕ) : Type 0 where
  pub rest : List Rule
  pub so_far : List Mark
  pub stands : IsRules cs sorts (length prog) q r rest
  pub count : r + length rest ≡ rules
  pub split : so_far ++ marks_rules rest ≡ marks_rules prog
  pub after : l ≡ length so_far
  pub onward : (i : ℕ) → place (l + 1) rest i ≡ place 1 prog (r + i)
  pub written : length so_far ≤ words old → length so_far ≤ 4096 → Written old out so_far slots r prog

abbrev pub RulesGo : List ℕ → List ℕ → ℕ → List ℕ → List ℕ → ℕ → ℕ → ℕ → List ℕ → List ℕ → Type 0
RulesGo cs sorts rules start old q l r out slots = (prog : List Rule) → IsRules cs sorts (length prog) 0 0 prog → rules ≡ length prog → start ≡ replicate 128 0 → RulesRest cs sorts rules prog old q l r out slots

pub rules-start : (cs sorts : List ℕ) (rules : ℕ) (old slots : List ℕ) → RulesGo cs sorts rules slots old 0 0 0 old slots
unfolding puts Chain places
rules-start cs sorts rules old slots prog h c z =
    let e : (i : ℕ) → get_or slots i 0 ≡ 0 = λ i. ap (λ (s : List ℕ). get_or s i 0) z ∙ zeros-at 128 i in
    record {
      rest = prog;
      so_far = [];
      stands = h;
      count = omega arith;
      split = refl;
      after = refl;
      onward = λ i. (let y : i ≡ 0 + i = omega arith in ap (λ (j : ℕ). place 1 prog j) y);
      written = λ f s. record { now = []; wrote = refl; long = refl; words = λ i m v a x. absurd (let y = at_in a in omega arith); chains = λ i y k. e i; behind = λ i y. absurd (omega arith); ahead = λ i y. omega (arith, e i) };
    }

rules-step : (cs sorts : List ℕ) (rules : ℕ) (prog : List Rule) (old : List ℕ) (q l r sort q' l' : ℕ) (out mid new slots more last : List ℕ) (rest : List Rule) (ms : List Mark) → IsRules cs sorts (length prog) q r rest → r + length rest ≡ rules → ms ++ marks_rules rest ≡ marks_rules prog → l ≡ length ms
    → ((i : ℕ) → place (l + 1) rest i ≡ place 1 prog (r + i)) → (length ms ≤ words old → length ms ≤ 4096 → Written old out ms slots r prog) → rules ≡ length prog → r < rules → rules ≤ length slots → length more ≡ length slots → PlaceDone slots more r out mid l → sort ≡ get_or sorts r 0 → RuleDone cs q mid new l sort more last q' l'
    → RulesRest cs sorts rules prog old q' l' (r + 1) new last
unfolding RuleDone marks_rules place
rules-step cs sorts rules prog old q l r sort q' l' out mid new slots more last [] ms h c s a f w k i j m d t g = absurd (omega arith)
rules-step cs sorts rules prog old q l r sort q' l' out mid new slots more last (b ∷ bs) ms (rules_more {e = E} x y z) c s a f w k i j m d t g =
    let D = g (length prog) b E (omega arith) x (t ∙ y) in
    let z0 : r + 0 ≡ r = omega arith in
    let here : l + 1 ≡ place 1 prog r = place-first (l + 1) (b ∷ bs) ∙ (f 0 ∙ ap (λ (j : ℕ). place 1 prog j) z0) in
    let n = length-append ms (marks_rule b) in
    record {
      rest = bs;
      so_far = ms ++ marks_rule b;
      stands = subst (λ (j : ℕ). IsRules cs sorts (length prog) j (r + 1) bs) (sym D.next) z;
      count = omega arith;
      split = append_assoc ms (marks_rule b) (marks_rules bs) ∙ s;
      after = omega (arith, D.after);
      onward = λ v. (let p : l' + 1 ≡ l + 1 + size_rule b = omega (arith, D.after, length-marks_rule b) in let p2 : r + suc v ≡ r + 1 + v = omega arith in ap (λ (j : ℕ). place j bs v) p ∙ (f (suc v) ∙ ap (λ (j : ℕ). place 1 prog j) p2));
      written = λ u v. rule-written old out mid new ms (marks_rule b) slots more last r l prog (w (omega arith) (omega arith)) (omega arith) a (omega arith) (omega arith) here d D.emitted;
    }

pub rules-go : (cs sorts : List ℕ) (rules : ℕ) (start old : List ℕ) (q l r sort q' l' : ℕ) (out mid new slots more last : List ℕ) → r < rules → rules ≤ 128 → length slots ≡ length start → length more ≡ length slots → PlaceDone slots more r out mid l → sort ≡ get_or sorts r 0 → RuleDone cs q mid new l sort more last q' l'
    → RulesGo cs sorts rules start old q l r out slots → RulesGo cs sorts rules start old q' l' (r + 1) new last
rules-go cs sorts rules start old q l r sort q' l' out mid new slots more last i j k m d t g f prog h c z =
    let w = f prog h c z in
    let n : length slots ≡ 128 = k ∙ (ap length z ∙ length-replicate {A = ℕ} 128 0) in
    rules-step cs sorts rules prog old q l r sort q' l' out mid new slots more last w.rest w.so_far w.stands w.count w.split w.after w.onward w.written c i (omega arith) m d t g

none_left : (rest : List Rule) → length rest ≡ 0 → rest ≡ []
none_left [] h = refl
none_left (b ∷ bs) h = absurd (omega arith)

-- every word is known
module _ {cs sorts : List ℕ} (old out slots : List ℕ) (r : ℕ) (prog : List Rule) (stands : IsRules cs sorts (length prog) 0 0 prog) (all : length prog ≤ r) (small : size_rules prog ≤ 4096) (w : Written old out (marks_rules prog) slots r prog) where
  word-is : (i : ℕ) (m : Mark) → At (marks_rules prog) i m → get_or w.now i 0 ≡ get_or (solved (place 1 prog) 0 0 (marks_rules prog)) i 0
  word-is i (known v) a = w.words i (known v) v a fixed_known ∙ sym (solved-known (place 1 prog) 0 0 a)
  word-is i (waiting t) a = by t ((rules-only stands).only i t a) a
    where
      by : (t : Target) → Calls (length prog) t → At (marks_rules prog) i (waiting t) → get_or w.now i 0 ≡ get_or (solved (place 1 prog) 0 0 (marks_rules prog)) i 0
      by t (calls {r = s} h) a = w.words i (waiting (rule s)) (place 1 prog s) a (fixed_call (w.behind s (omega arith)) (omega (arith, place-fits 1 prog s h))) ∙ sym (solved-call (place 1 prog) 0 0 a)

  pub all_known : out ≡ puts old 0 (table prog)
  unfolding table
  all_known =
      let S = solved (place 1 prog) 0 0 (marks_rules prog) in
      let e : w.now ≡ S = ext_get_or 0 w.now S (w.long ∙ sym (length-solved (place 1 prog) 0 0 (marks_rules prog))) (λ i h. (let m = at_some (marks_rules prog) i (omega (arith, w.long)) in word-is i m.mark m.there)) in
      w.wrote ∙ ap (λ (s : List ℕ). puts old 0 s) (e ∙ solved-rules (place 1 prog) prog)

pub rules-end : (cs sorts : List ℕ) (rules : ℕ) (start old : List ℕ) (q l r : ℕ) (out slots : List ℕ) → rules ≤ r → RulesGo cs sorts rules start old q l r out slots → RulesDone cs sorts rules start old out l
unfolding RulesDone marks_rules
rules-end cs sorts rules start old q l r out slots i g prog h c z =
    let w = g prog h c z in
    let n = none_left w.rest (omega (arith, w.count)) in
    let e : w.so_far ≡ marks_rules prog = sym (append-nil w.so_far) ∙ (ap (λ (j : List Rule). w.so_far ++ marks_rules j) (sym n) ∙ w.split) in
    let m = length-marks_rules prog in
    let k : l ≡ size_rules prog = w.after ∙ (ap length e ∙ m) in
    (k, λ f s. all_known old out slots r prog h (omega arith) s (subst (λ (j : List Mark). Written old out j slots r prog) e (w.written (omega (arith, w.after)) (omega (arith, w.after)))))

-- The lent bytes

pub zeros : (s : List ℕ) (t : List ℕ) → t ≡ puts s 0 (replicate (words s - 0) 0) → t ≡ bytes_of (replicate (words s) 0) ++ drop (2 * words s) s
zeros s t e =
    let z : words s - 0 ≡ words s = omega arith in
    whole s [] t (omega arith) (e ∙ ap (λ (u : List ℕ). puts u 0 (replicate {A = ℕ} (words s - 0) 0)) (nothing s 0)) ∙ ap (λ (k : ℕ). bytes_of (replicate {A = ℕ} k 0) ++ drop (2 * words s) s) z

off : (prog : List Rule) (room : ℕ) → (4096 < size_rules prog) ⊎ (room < size_rules prog) → fits prog room ≡ false
unfolding fits
off prog room (inl h) = simp (lt-leb (size_rules prog) 4096 h) (and-false (leb (size_rules prog) room))
off prog room (inr h) = simp (lt-leb (size_rules prog) room h)

-- 20: whatever stood there, but for an odd last byte
pub refused : (prog : List Rule) (old mid new : List ℕ) (size : ℕ) → size ≡ size_rules prog → (4096 < size_rules prog) ⊎ (words old < size_rules prog) → length mid ≡ length old → drop (2 * words old) mid ≡ drop (2 * words old) old → new ≡ puts mid 0 (replicate (words mid - 0) 0) → EmitDone prog old new 20 size
unfolding count emitted_bytes emitted_words fault_of
refused prog old mid new size s h n d e =
    let f : fits prog (words old) ≡ false = off prog (words old) h in
    let x : words mid ≡ words old = ap (λ (y : ℕ). y / 2) n in
    let Z = zeros mid new e ∙ (ap (λ (y : ℕ). bytes_of (replicate {A = ℕ} y 0) ++ drop (2 * y) mid) x ∙ ap (λ (y : List ℕ). bytes_of (replicate {A = ℕ} (words old) 0) ++ y) d) in
    record { bytes = simp f Z; number = simp f; words = s }

-- a part of the buffer
pub tail-same : (old part : List ℕ) (e : ℕ) → length part ≡ e → e ≤ 2 * words old → drop (2 * words old) (part ++ drop e old) ≡ drop (2 * words old) old
tail-same old part e h k =
    let m = 2 * words old - e in
    let a : 2 * words old ≡ length part + m = omega arith in
    let b : e + m ≡ 2 * words old = omega arith in
    ap (λ (j : ℕ). drop j (part ++ drop e old)) a ∙ (drop-append-add part (drop e old) m ∙ (drop-drop m e old ∙ ap (λ (j : ℕ). drop j old) b))

drop-take : (s : List ℕ) (m e : ℕ) → m ≤ e → e ≤ length s → drop m (take e s) ++ drop e s ≡ drop m s
drop-take s m e h k =
    let n : length (take e s) ≡ e = length-take-le e s k in
    sym (drop-append-le m (take e s) (drop e s) (omega arith)) ∙ ap (λ (t : List ℕ). drop m t) (take-append-drop e s)

-- the table, and zeros behind it
pub accepted : (prog : List Rule) (old mid new : List ℕ) (size : ℕ) → size ≡ size_rules prog → size ≤ 4096 → size ≤ words old → mid ≡ puts old 0 (table prog) → new ≡ puts mid size (replicate (words mid - size) 0) → EmitDone prog old new 0 size
unfolding count emitted_bytes emitted_words fault_of fits
accepted prog old mid new size w i j m e =
    let L : length (table prog) ≡ size_rules prog = length-table prog in
    let x : words mid ≡ words old = ap (λ (y : ℕ). y / 2) (ap length m ∙ length-puts old 0 (table prog)) in
    let z : size ≡ length (table prog) = omega arith in
    let N : new ≡ puts (puts old 0 (table prog)) (length (table prog)) (replicate (words old - length (table prog)) 0) =
    e ∙ (ap (λ (y : ℕ). puts mid size (replicate {A = ℕ} (y - size) 0)) x ∙ (ap (λ (u : List ℕ). puts u size (replicate {A = ℕ} (words old - size) 0)) m ∙ ap (λ (y : ℕ). puts (puts old 0 (table prog)) y (replicate {A = ℕ} (words old - y) 0)) z)) in
    let f1 = le-leb (size_rules prog) (words old) (omega arith) in
    let f2 = le-leb (size_rules prog) 4096 (omega arith) in
    record { bytes = simp (f1, f2) (whole old (table prog) new (omega arith) N); number = simp (f1, f2); words = w }

pub part-puts : (old ws : List ℕ) (e : ℕ) → 2 * length ws ≤ e → e ≤ length old → puts (take e old) 0 ws ++ drop e old ≡ puts old 0 ws
part-puts old ws e h k =
    let n : length (take e old) ≡ e = length-take-le e old k in
    let m = 2 * 0 + 2 * length ws in
    let z : m ≤ e = omega arith in
    ap (λ (t : List ℕ). t ++ drop e old) (puts-eq (take e old) 0 ws (omega arith))
    ∙ (append_assoc (take 0 (take e old)) (bytes_of ws ++ drop m (take e old)) (drop e old)
    ∙ (ap (λ (t : List ℕ). take 0 (take e old) ++ t) (append_assoc (bytes_of ws) (drop m (take e old)) (drop e old) ∙ ap (λ (t : List ℕ). bytes_of ws ++ t) (drop-take old m e z k)) ∙ sym (puts-eq old 0 ws (omega arith))))

-- the rules were written into the first e bytes
part-long : (old part : List ℕ) (e : ℕ) → length part ≡ e → e ≤ length old → length (part ++ drop e old) ≡ length old
part-long old part e h k = omega (arith, length-append part (drop e old), length-drop e old)

pub refused-part : (prog : List Rule) (old part new : List ℕ) (size e : ℕ) → size ≡ size_rules prog → (4096 < size_rules prog) ⊎ (words old < size_rules prog) → length part ≡ e → e ≤ 2 * words old → new ≡ puts (part ++ drop e old) 0 (replicate (words (part ++ drop e old) - 0) 0) → EmitDone prog old new 20 size
refused-part prog old part new size e s h n k w = refused prog old (part ++ drop e old) new size s h (part-long old part e n (omega arith)) (tail-same old part e n k) w

pub accepted-part : (cells sorts : List ℕ) (rules : ℕ) (prog : List Rule) (slots old part new : List ℕ) (size e : ℕ) → CellsOf cells sorts rules prog → slots ≡ replicate 128 0 → RulesDone cells sorts rules slots (take e old) part size → size ≤ 4096 → size ≤ words old → e ≡ 2 * min (words old) 4096 → new ≡ puts (part ++ drop e old) size (replicate (words (part ++ drop e old) - size) 0) → EmitDone prog old new 0 size
unfolding RulesDone
accepted-part cells sorts rules prog slots old part new size e h z d i j k w =
    let r = d prog (program-stands cells sorts rules prog h) h.count z in
    let L : length (table prog) ≡ size_rules prog = length-table prog in
    let n : length (take e old) ≡ e = length-take-le e old (omega arith) in
    let q = r.1 (omega (arith, r.0)) (omega (arith, r.0)) in
    accepted prog old (part ++ drop e old) new size r.0 i j (ap (λ (t : List ℕ). t ++ drop e old) q ∙ part-puts old (table prog) e (omega (arith, r.0)) (omega arith)) w

pub size_of : (cells sorts : List ℕ) (rules : ℕ) (prog : List Rule) (slots old part : List ℕ) (size : ℕ) → CellsOf cells sorts rules prog → slots ≡ replicate 128 0 → RulesDone cells sorts rules slots old part size → size ≡ size_rules prog
unfolding RulesDone
size_of cells sorts rules prog slots old part size h z d = (d prog (program-stands cells sorts rules prog h) h.count z).0
