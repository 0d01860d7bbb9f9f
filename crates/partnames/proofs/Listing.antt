-- The rows of a common part.
use mathlib.Core.Bool.{Bool, true, false, not, false≢true}
use mathlib.Core.List.{List, [], ◌∷◌, ◌++◌}
use mathlib.Core.Option.{some}
use mathlib.Core.Path.{◌≡◌, refl, sym, ◌∙◌}
use Prim.Native.Nat.{ℕ, suc, ◌+◌, ◌≤◌}
use native.Mathlib.Omega.{arith}
use lib.ListN.{length}
use Rattle.base.specs.Tree.{done}
use Rattle.collector.proofs.Rows.{appends-none, appends-then}
use Rattle.collector.proofs.Sections.{start-kept}
use Rattle.collector.proofs.Skips.{stays}
use Rattle.collector.proofs.Words.{not-kind, took-at, took-kind, took-rest}
use Rattle.collector.specs.Collecting.{ARule, Appends, LineIn, a_line, ListIn, no_head, more_heads, Room, SomeSections, to_semicolon}
use Rattle.collector.specs.declared.Spot.{Spot}
use Rattle.declarations.proofs.Whole.{length-sections}
use Rattle.declarations.specs.Decls.{Decl, rule_decls, sections_decls}
use Rattle.grammar.specs.Derived.{Took, gives_some}
use Rattle.parts.specs.Objects.{as_rules}
use Rattle.partnames.specs.Declaring.{BeginsLine, CommonIn, CommonRows, Declares, NoLine, no_name, no_type, no_semicolon, SomeLines}
use Rattle.reader.specs.Answers.{Here}
use Rattle.scanner.specs.declared.WordAt.{WordAt}
use Rattle.symbols.specs.Rows.{held, held_from}
use Rattle.syntax.specs.Sections.{nothing}
use Rattle.syntax.specs.Texts.{Common, Head}
use Rattle.syntax.specs.Written.{Rule}
use Rattle.words.specs.Words.{Word, words_at}

-- A test that is turned round

pub turned-off : (b : Bool) → not b ≡ true → b ≡ false
turned-off true e = absurd (false≢true e)
turned-off false e = refl

pub turned_on : (b : Bool) → not b ≡ false → b ≡ true
turned_on true e = refl
turned_on false e = absurd (false≢true (sym e))

-- A line begins here

pub no-name-here : {text : List ℕ} {at : ℕ} {w : WordAt} → Here text at w → (w.kind ≡ 257 → ⊥) → BeginsLine text at false
no-name-here h e = record { line = λ t u g s. absurd (e (took-kind h t)); none = λ _. refl }

pub no-type-here : {text : List ℕ} {at : ℕ} {w v : WordAt} → Here text at w → w.kind ≡ 257 → Here text w.next v → (v.kind ≡ 256 → ⊥) → BeginsLine text at false
no-type-here h k i e = record { line = λ t u g s. absurd (e (took-kind i (took-at (took-rest h (omega arith) t) u))); none = λ _. refl }

module _ {text : List ℕ} {at : ℕ} {w v g s : WordAt} (h : Here text at w) (k : w.kind ≡ 257) (i : Here text w.next v) (l : v.kind ≡ 256) (j : Here text v.next g) (m : Here text g.next s) where
  semicolon-here : {w' sign t semi : Word} {ws₁ ws₂ ws₃ ws₄ : List Word} → Took 257 (words_at text at) w' ws₁ → Took 256 ws₁ sign ws₂ → Took 257 ws₂ t ws₃ → Took 59 ws₃ semi ws₄ → s.kind ≡ 59
  semicolon-here a b c d =
      let b' = took-at (took-rest h (omega arith) a) b in
      let c' = took-at (took-rest i (omega arith) b') c in
      took-kind m (took-at (took-rest j (omega arith) c') d)

  pub no-semicolon-here : (s.kind ≡ 59 → ⊥) → BeginsLine text at false
  no-semicolon-here e = record { line = λ a b c d. absurd (e (semicolon-here a b c d)); none = λ _. refl }

  pub line-here : s.kind ≡ 59 → BeginsLine text at true
  line-here e = record { line = λ a b c d. refl; none = none } where
    none : NoLine (words_at text at) → true ≡ false
    none (no_name a) = absurd (not-kind 257 h a k)
    none (no_type a b) =
        absurd (not-kind 256 i (rw (took-rest h (omega arith) a) at b) l)
    none (no_semicolon a b c d) =
        let b' = took-at (took-rest h (omega arith) a) b in
        let c' = took-at (took-rest i (omega arith) b') c in
        absurd (not-kind 59 m (rw (took-rest j (omega arith) c') at d) e)

-- Lines in turn

abbrev line_of : Word → Word → Rule
line_of w g = record { rule = w; gives = some g; body = done; closing = w }

a-head : {ws ws₁ ws₂ ws₃ ws₄ : List Word} {w sign g semi : Word} → Took 257 ws w ws₁ → Took 256 ws₁ sign ws₂ → Took 257 ws₂ g ws₃ → Took 59 ws₃ semi ws₄ → LineIn ws ws₄ (line_of w g)
a-head {ws₃ = ws₃} {ws₄ = ws₄} {semi = semi} t u g s = let s' : Took 59 (to_semicolon ws₃) semi ws₄ = rw (stays s) s in a_line t (gives_some u g) s'

pub lines_none : {text rows : List ℕ} {i n k : ℕ} {b : Bool} → i ≤ length text → n ≤ 512 → BeginsLine text i b → b ≡ false → SomeLines text rows rows i n k (record { at = i; count = n })
unfolding rule_decls
lines_none {text} {rows} {i} {n} {k} {b} l m h e = record { bounds = record { low = omega arith; high = l; more = omega arith; small = m }; rest = rest; appends = added } where
  never : {ws' : List Word} {x : Rule} {xs : List Rule} → ListIn (words_at text i) ws' (x ∷ xs) → ⊥
  never (more_heads t u g s q) = false≢true (sym e ∙ h.line t u g s)

  rest : (ws' : List Word) (xs : List Rule) → ListIn (words_at text i) ws' xs → NoLine ws' → ws' ≡ words_at text i
  rest ws' [] (no_head z) o = z
  rest ws' (x ∷ xs) q o = absurd (never q)

  added : (ws' : List Word) (xs : List Rule) → ListIn (words_at text i) ws' xs → NoLine ws' → Room rows n (length xs) → Appends text rows rows n n (rule_decls k xs)
  added ws' [] q o r = appends-none text rows n
  added ws' (x ∷ xs) q o r = absurd (never q)

module _ {text rows rows₁ : List ℕ} {i n k : ℕ} {b : Bool} {x : Spot} (h : BeginsLine text i b) (e : b ≡ true) (a : ARule text rows rows₁ i n k x) where
  some-line : {ws' : List Word} → ListIn (words_at text i) ws' [] → NoLine ws' → ⊥
  some-line (no_head z) o = false≢true (sym (h.none (rw z at o)) ∙ e)

  pub lines_more : {rows' : List ℕ} {k' : ℕ} {r : Spot} → length rows₁ ≡ length rows → (x.count ≡ n + 1 → k' ≡ suc k) → SomeLines text rows₁ rows' x.at x.count k' r → SomeLines text rows rows' i n k r
  unfolding rule_decls
  lines_more {rows'} {k'} {r} z f u = record {
    bounds = record { low = omega (arith, a.bounds.low, u.bounds.low); high = u.bounds.high; more = omega (arith, a.bounds.more, u.bounds.more); small = u.bounds.small };
    rest = rest;
    appends = added;
  } where
    rest : (ws' : List Word) (xs : List Rule) → ListIn (words_at text i) ws' xs → NoLine ws' → ws' ≡ words_at text r.at
    rest ws' [] q o = absurd (some-line q o)
    rest ws' (y ∷ ys) (more_heads {ws₄ = ws₄} t v g s q) o = u.rest ws' ys (rw (a.goes ws₄ y (a-head t v g s)).rest at q) o

    added : (ws' : List Word) (xs : List Rule) → ListIn (words_at text i) ws' xs → NoLine ws' → Room rows n (length xs) → Appends text rows rows' n r.count (rule_decls k xs)
    added ws' [] q o m = absurd (some-line q o)
    added ws' (y ∷ ys) (more_heads {ws₄ = ws₄} t v g s q) o m =
        let d = a.appends ws₄ y (a-head t v g s) (record { size = m.size; room = omega (arith, m.room) }) in
        let q' : ListIn (words_at text x.at) ws' ys = rw (a.goes ws₄ y (a-head t v g s)).rest at q in
        let c = u.appends ws' ys q' o (record { size = z ∙ m.size; room = omega (arith, m.room, d.counted) }) in
        appends-then d (rw (f d.counted) at c)

  pub lines-stuck : x.at ≤ i → SomeLines text rows rows₁ i n k x
  lines-stuck l = record { bounds = a.bounds; rest = λ ws' xs q o. absurd (never q o); appends = λ ws' xs q o r. absurd (never q o) } where
    never : {ws' : List Word} {xs : List Rule} → ListIn (words_at text i) ws' xs → NoLine ws' → ⊥
    never {xs = []} q o = some-line q o
    never {xs = y ∷ ys} (more_heads {ws₄ = ws₄} t v g s q) o = omega (arith, (a.goes ws₄ y (a-head t v g s)).past)

pub lines_from : {text rows rows' : List ℕ} {at n k : ℕ} {r : Spot} {j : ℕ} → k ≡ j → SomeLines text rows rows' at n k r → SomeLines text rows rows' at n j r
lines_from e u = rw e at u

-- The whole

start : (text rows : List ℕ) (ds : List Decl) → held text rows 0 ++ ds ≡ ds
unfolding held held_from
start text rows ds = refl

pub lines-length : (hs : List Head) → length (as_rules hs) ≡ length hs
unfolding as_rules
lines-length [] = refl
lines-length (h ∷ hs) = let e = lines-length hs in omega arith

length-lines : (k : ℕ) (rs : List Rule) → length (rule_decls k rs) ≡ length rs
unfolding rule_decls
length-lines k [] = refl
length-lines k (r ∷ rs) = let e = length-lines (suc k) rs in omega arith

pub declared : {text rows rows₁ rows' : List ℕ} {s l : Spot} {w : WordAt} → length rows₁ ≡ length rows → length rows' ≡ length rows₁
    → SomeSections text rows rows₁ 0 0 (record { input = 0; output = 0; error = 0; seen = record { plain = 0; taking = 0; giving = 0; both = 0 } }) s → Here text s.at w
    → SomeLines text rows₁ rows' w.next s.count 0 l → Declares text rows rows' (record { count = l.count; first = s.count; at = l.at })
declared {text} {rows} {rows₁} {rows'} {s} {l} {w} y z a h b = record { size = z ∙ y; early = b.bounds.more; small = b.bounds.small; inside = b.bounds.high; common = all } where
  all : (c : Common) (ws' : List Word) → CommonIn (words_at text 0) ws' c → NoLine ws' → length rows ≡ 6017
      → CommonRows text rows' (record { count = l.count; first = s.count; at = l.at }) ws' c
  all c ws' q o m =
      let d = a.appends nothing q.before c.sections q.sections start-kept (record { size = m; room = omega (arith, q.names) }) in
      let t : q.behind ≡ words_at text w.next = took-rest h (omega arith) (took-at (a.rest nothing q.before c.sections q.sections start-kept) q.rules) in
      let i : ListIn (words_at text w.next) ws' (as_rules c.listed) = rw t at q.list in
      let n = lines-length c.listed in
      let f = b.appends ws' (as_rules c.listed) i o (record { size = y ∙ m; room = omega (arith, d.counted, length-sections 0 c.sections, q.names, q.few, n) }) in
      let g = appends-then d f in
      record {
        rows = g.filled ∙ start text rows (sections_decls 0 c.sections ++ rule_decls 0 (as_rules c.listed));
        first = omega (arith, d.counted, length-sections 0 c.sections);
        count = omega (arith, f.counted, n, length-lines 0 (as_rules c.listed));
        stands = a.stands nothing q.before c.sections q.sections start-kept;
        rest = b.rest ws' (as_rules c.listed) i o;
      }
