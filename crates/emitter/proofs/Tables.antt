-- The choice table, from its last entry back along the chain of ends. Assumes nothing.
use Prim.Native.Nat.{ℕ, ◌+◌, ◌*◌, ◌-◌, ◌<◌, ◌≤◌}
use mathlib.Core.Path.{◌≡◌, refl, sym, ap, ◌∙◌, subst}
use mathlib.Core.Bool.{Bool, true, false, cond}
use mathlib.Core.List.{List, [], ◌∷◌, ◌++◌, append_assoc, append-nil}
use native.Mathlib.Omega.{arith}
use lib.ListN.{length, get_or, set, length-set, length-append}
use lib.Seq.{get_or-set_other}
use lib.Dec.{eqb}
use Rattle.base.specs.Tree.{nil, alternative}
use Rattle.program.specs.Program.{Alts}
use Rattle.program.specs.Table.{sizes, size_alts, count_labels, label_words, table_words}
use Rattle.program.proofs.Lengths.{length-labels}
use Rattle.machine.specs.Bytes.{words_of}
use Rattle.chains.specs.Marks.{end, head, waiting, waits, number, marks_all, marks_alts}
use Rattle.chains.specs.Chain.{Chain, places, patched}
use Rattle.chains.proofs.Lists.{places-append}
use Rattle.chains.proofs.Solves.{length-marks_all}
use Rattle.emitter.specs.Words.{words, set_word, puts}
use Rattle.emitter.specs.Stands.{Labels}
use Rattle.emitter.specs.Heads.{labels_at, link_at, behind}
use Rattle.emitter.specs.Ends.{Entry, entries, Ends, heads, ends, row_length, row_words}
use Rattle.emitter.specs.Work.{LabelsDone, TableDone}
use Rattle.emitter.proofs.Laws.{puts-append, length-puts}
use Rattle.emitter.proofs.Rows.{set_before, set-row, puts-before, row-append, word_row}
use Rattle.emitter.proofs.Patches.{link-is}

-- words that the ends do not need
pub ends_low : (cs ws vs : List ℕ) (from n : ℕ) (es : List Entry) → length ws ≤ length vs → ((i : ℕ) → from ≤ i → i ≤ n → i < length ws → get_or vs i 0 ≡ get_or ws i 0) → Ends cs ws from n es → Ends cs vs from n es
unfolding Ends
ends_low cs ws vs from n [] l f c = c
ends_low cs ws vs from n (e ∷ es) l f c =
    let a : get_or vs n 0 ≡ get_or ws n 0 = f n (omega (arith, c.3)) (omega arith) c.1 in
    let b : get_or vs (n - 1) 0 ≡ get_or ws (n - 1) 0 = f (n - 1) (omega (arith, c.3)) (omega arith) (omega (arith, c.1)) in (
      c.0,
      omega (arith, c.1),
      omega (arith, c.2, a),
      c.3,
      c.4 ∙ ap (λ (k : ℕ). behind k from) (sym a),
      ap (λ (k : ℕ). labels_at cs k) b ∙ c.5,
      subst (λ (k : ℕ). Labels cs (k + 1) e.labels) (sym b) c.6,
      subst (λ (k : ℕ). Ends cs vs from k es) (sym a) (ends_low cs ws vs from (get_or ws n 0) es l (λ i g h k. f i g (omega (arith, c.2)) k) c.7),
    )

pub ends-chain : (cs ws : List ℕ) (from n : ℕ) (es : List Entry) → Ends cs ws from n es → Chain ws n (ends es)
unfolding Ends Chain ends
ends-chain cs ws from n [] c = c
ends-chain cs ws from n (e ∷ es) c =
    let q = c.0 in
    let g : get_or ws e.place 0 ≡ get_or ws n 0 = ap (λ (k : ℕ). get_or ws k 0) (sym q) in
    (q, omega (arith, c.2), omega (arith, c.1), omega (arith, c.2, g), subst (λ (k : ℕ). Chain ws k (ends es)) (sym g) (ends-chain cs ws from (get_or ws n 0) es c.7))

pub ends-below : (cs ws : List ℕ) (from n : ℕ) (es : List Entry) → 0 < length ws → Ends cs ws from n es → n < length ws
unfolding Ends
ends-below cs ws from n [] h c = omega (arith, c)
ends-below cs ws from n (e ∷ es) h c = c.1

behind-low : (older from l : ℕ) → from ≤ l → older + 1 ≤ l → behind older from ≤ l
unfolding behind
behind-low older from l h k = cond-low (eqb older 0) from (older + 1) l h k
  where
    cond-low : (b : Bool) (x y l : ℕ) → x ≤ l → y ≤ l → cond b x y ≤ l
    cond-low true x y l h k = h
    cond-low false x y l h k = k

-- what the loop has come to
abbrev one : ℕ → ℕ
one j = 1

pub record TableRest (cs base ws : List ℕ) (es : List Entry) (from top : ℕ) (out : List ℕ) (j l : ℕ) : Type 0 where
  pub now : List ℕ
  pub left : List Entry
  pub suf : List ℕ
  pub wrote : out ≡ puts (puts base 0 now) l suf
  pub long : length now ≡ length ws
  pub stand : Ends cs now from j left
  pub room : l ≡ length ws + row_length left
  pub size : l + length suf ≡ top
  pub words : row_words left l ++ suf ≡ row_words es top
  pub same : patched now (λ j. 1) (heads left) ≡ patched ws (λ j. 1) (heads es)

abbrev pub TableGo : List ℕ → List ℕ → ℕ → ℕ → ℕ → List ℕ → ℕ → ℕ → Type 0
TableGo cs old n from top out j l = (base ws : List ℕ) (es : List Entry) → old ≡ puts base 0 ws → Ends cs ws from n es → from ≤ length ws → length ws + row_length es ≡ top → top ≤ words base → top < 65536 → TableRest cs base ws es from top out j l

pub table_none : (cs old : List ℕ) (n from top : ℕ) → TableGo cs old n from top old n top
unfolding puts
table_none cs old n from top base ws es e h f s b z = record { now = ws; left = es; suf = []; wrote = e; long = refl; stand = h; room = sym s; size = omega arith; words = append-nil (row_words es top); same = refl }

module _ (cs base ws : List ℕ) (es : List Entry) (from top : ℕ) (out mid new : List ℕ) (j l cell n older l' : ℕ) (some : 0 < j) (is-cell : cell ≡ get_or (words_of out) (j - 1) 0) (is-n : n ≡ labels_at cs cell) (is-older : older ≡ link_at out j) (is-l : l' ≡ l - 2 * n)
    (wrote-labels : LabelsDone cs (cell + 1) n out mid l' (behind older from)) (Wrote-one : new ≡ set_word mid (j - 1) 1) (low : from ≤ length ws) (fits : top ≤ words base) (small : top < 65536) where
  table_step : (now : List ℕ) (left : List Entry) (suf : List ℕ) → out ≡ puts (puts base 0 now) l suf → length now ≡ length ws → Ends cs now from j left → l ≡ length ws + row_length left → l + length suf ≡ top → row_words left l ++ suf ≡ row_words es top
      → patched now (λ j. 1) (heads left) ≡ patched ws (λ j. 1) (heads es) → TableRest cs base ws es from top new older l'
  unfolding Ends row_length row_words heads patched LabelsDone
  table_step now [] suf w a c r s v p = absurd (omega (arith, c))
  table_step now (e ∷ left) suf w a c r s v p =
      let L = length e.labels in
      let hd = get_or now (j - 1) 0 in
      let C : cell ≡ hd = is-cell ∙ (ap (λ (t : List ℕ). get_or (words_of t) (j - 1) 0) w ∙ word_row base now suf l (j - 1) (omega (arith, c.1)) (omega arith) (omega arith)) in
      let W : get_or (words_of out) j 0 ≡ get_or now j 0 = ap (λ (t : List ℕ). get_or (words_of t) j 0) w ∙ word_row base now suf l j (omega (arith, c.1)) (omega arith) (omega arith) in
      let O : older ≡ get_or now j 0 = is-older ∙ link-is out j (get_or now j 0) W (omega (arith, c.2)) in
      let N : n ≡ L = is-n ∙ (ap (λ (k : ℕ). labels_at cs k) C ∙ c.5) in
      let E : l - 2 * L ≡ l' = sym (is-l ∙ ap (λ (k : ℕ). l - 2 * k) N) in
      let S : behind older from ≡ e.start = ap (λ (k : ℕ). behind k from) O ∙ sym c.4 in
      let B = behind-low older from (length ws) low (omega (arith, c.1, c.2)) in
      let d = l' - e.start in
      let LW = label_words d 0 e.labels in
      let lw : length LW ≡ 2 * L = length-labels d 0 e.labels in
      let M : mid ≡ puts out l' LW = wrote-labels e.labels d 0 (subst (λ (k : ℕ). Labels cs (k + 1) e.labels) (sym C) c.6) (sym N) (omega (arith, S, B)) (omega arith) in
      let row = puts base 0 now in
      let lr : length row ≡ length base = length-puts base 0 now in
      let z : l ≡ l' + length LW = omega arith in
      let M2 : mid ≡ puts row l' (LW ++ suf) =
      M ∙ (ap (λ (t : List ℕ). puts t l' LW) w ∙ (puts-before row l l' suf LW (omega arith) (omega arith) ∙ (ap (λ (k : ℕ). puts (puts row l' LW) k suf) z ∙ sym (puts-append row l' LW suf)))) in
      let ls : length (LW ++ suf) ≡ length LW + length suf = length-append LW suf in
      record {
        now = set now (j - 1) 1;
        left = left;
        suf = LW ++ suf;
        wrote = Wrote-one ∙ (ap (λ (t : List ℕ). set_word t (j - 1) 1) M2 ∙ (set_before row l' (j - 1) 1 (LW ++ suf) (omega (arith, c.1)) (omega arith) ∙ ap (λ (t : List ℕ). puts t l' (LW ++ suf)) (set-row base (j - 1) 1 now (omega (arith, c.1)) (omega arith))));
        long = length-set now (j - 1) 1 ∙ a;
        stand = subst (λ (k : ℕ). Ends cs (set now (j - 1) 1) from k left) (sym O) (ends_low cs now (set now (j - 1) 1) from (get_or now j 0) left (omega (arith, length-set now (j - 1) 1)) (λ i g h k. get_or-set_other now (j - 1) i 1 0 (λ q. omega (arith, c.2))) c.7);
        room = omega arith;
        size = omega arith;
        words = sym (append_assoc (row_words left l') LW suf) ∙ (sym (ap (λ (k : ℕ). (row_words left k ++ label_words (k - e.start) 0 e.labels) ++ suf) E) ∙ v);
        same = ap (λ (k : ℕ). patched (set now (k - 1) 1) (λ j. 1) (heads left)) c.0 ∙ p;
      }

pub table_more : (cs old : List ℕ) (n₀ from top : ℕ) (out mid new : List ℕ) (j l cell n older l' : ℕ) → 0 < j → cell ≡ get_or (words_of out) (j - 1) 0 → n ≡ labels_at cs cell → older ≡ link_at out j → l' ≡ l - 2 * n
    → (b : ℕ) → b ≡ behind older from → LabelsDone cs (cell + 1) n out mid l' b → new ≡ set_word mid (j - 1) 1 → TableGo cs old n₀ from top out j l → TableGo cs old n₀ from top new older l'
table_more cs old n₀ from top out mid new j l cell n older l' o c k f i b₀ be d w g base ws es e h b s t z =
    let r = g base ws es e h b s t z in
    table_step cs base ws es from top out mid new j l cell n older l' o c k f i (subst (λ (a : ℕ). LabelsDone cs (cell + 1) n out mid l' a) be d) w b t z r.now r.left r.suf r.wrote r.long r.stand r.room r.size r.words r.same

table-last : (cs base ws : List ℕ) (es : List Entry) (from top : ℕ) (out : List ℕ) (j l : ℕ) → j ≡ 0 → (now : List ℕ) (left : List Entry) (suf : List ℕ) → out ≡ puts (puts base 0 now) l suf → length now ≡ length ws → Ends cs now from j left → l ≡ length ws + row_length left
    → row_words left l ++ suf ≡ row_words es top → patched now (λ j. 1) (heads left) ≡ patched ws (λ j. 1) (heads es) → out ≡ puts base 0 (patched ws (λ j. 1) (heads es) ++ row_words es top)
unfolding Ends row_length row_words heads patched
table-last cs base ws es from top out j l z now [] suf w a c r v p = w ∙ (row-append base now suf l (omega arith) ∙ (ap (λ (t : List ℕ). puts base 0 (t ++ suf)) p ∙ ap (λ (t : List ℕ). puts base 0 (patched ws (λ j. 1) (heads es) ++ t)) v))
table-last cs base ws es from top out j l z now (e ∷ left) suf w a c r v p = absurd (omega (arith, c.2))

pub table-end : (cs old : List ℕ) (n from top : ℕ) (out : List ℕ) (j l : ℕ) → j ≡ 0 → TableGo cs old n from top out j l → TableDone cs old out n from top
unfolding TableDone
table-end cs old n from top out j l z g base ws es e h b s t y =
    let r = g base ws es e h b s t y in
    table-last cs base ws es from top out j l z r.now r.left r.suf r.wrote r.long r.stand r.room r.words r.same

-- the entries are the choice table's
row-length-append : (xs ys : List Entry) → row_length (xs ++ ys) ≡ row_length ys + row_length xs
unfolding row_length
row-length-append [] ys = omega arith
row-length-append (x ∷ xs) ys = omega (arith, row-length-append xs ys)

pub row-length : (l : ℕ) (q : Alts) → row_length (entries l q) ≡ 2 * count_labels q
unfolding row_length entries count_labels
row-length l nil = refl
row-length l (alternative ls b q) = omega (arith, row-length-append (entries (l + length (marks_all b) + 2) q) (record { labels = ls; start = l; place = l + length (marks_all b) + 1 } ∷ []), row-length (l + length (marks_all b) + 2) q)

row_last : (xs : List Entry) (e : Entry) (l : ℕ) → row_words (xs ++ (e ∷ [])) l ≡ label_words (l - row_length xs - 2 * length e.labels - e.start) 0 e.labels ++ row_words xs l
unfolding row_words row_length
row_last [] e l = let z : l - 2 * length e.labels ≡ l - 0 - 2 * length e.labels = omega arith in ap (λ (k : ℕ). label_words (k - e.start) 0 e.labels) z ∙ sym (append-nil (label_words (l - 0 - 2 * length e.labels - e.start) 0 e.labels))
row_last (x ∷ xs) e l =
    let m = l - 2 * length x.labels in
    let X = label_words (m - x.start) 0 x.labels in
    let z : m - row_length xs - 2 * length e.labels ≡ l - (row_length xs + 2 * length x.labels) - 2 * length e.labels = omega arith in
    ap (λ (s : List ℕ). s ++ X) (row_last xs e m ∙ ap (λ (k : ℕ). label_words (k - e.start) 0 e.labels ++ row_words xs m) z) ∙ append_assoc (label_words (l - (row_length xs + 2 * length x.labels) - 2 * length e.labels - e.start) 0 e.labels) (row_words xs m) X

label-shift : (d k j : ℕ) (ls : List ℕ) → label_words (d + k) j ls ≡ label_words d (k + j) ls
unfolding label_words
label-shift d k j [] = refl
label-shift d k j (v ∷ ls) =
    let a : d + k + (j + 1) ≡ d + (k + j + 1) = omega arith in
    let b : k + (j + 2) ≡ k + j + 2 = omega arith in
    ap (λ (i : ℕ). v ∷ i ∷ label_words (d + k) (j + 2) ls) a ∙ ap (λ (s : List ℕ). v ∷ (d + (k + j + 1)) ∷ s) (label-shift d k (j + 2) ls ∙ ap (λ (i : ℕ). label_words d i ls) b)

pub row-table : (l k top : ℕ) (q : Alts) → top ≡ l + size_alts q + k + 2 * count_labels q → row_words (entries l q) top ≡ table_words k q
unfolding entries row_words table_words size_alts count_labels
row-table l k top nil h = refl
row-table l k top (alternative ls b q) h =
    let m = length (marks_all b) in
    let y = length-marks_all b in
    let xs = entries (l + m + 2) q in
    let e : Entry = record { labels = ls; start = l; place = l + m + 1 } in
    let r = row-length (l + m + 2) q in
    let D = sizes b + (2 + size_alts q) in
    let z : top - row_length xs - 2 * length ls - l ≡ D + k = omega arith in
    let w : k + 0 ≡ k = omega arith in
    row_last xs e top ∙ (ap (λ (i : ℕ). label_words i 0 ls ++ row_words xs top) z ∙ (ap (λ (s : List ℕ). s ++ row_words xs top) (label-shift D k 0 ls ∙ ap (λ (i : ℕ). label_words D i ls) w) ∙ ap (λ (s : List ℕ). label_words D k ls ++ s) (row-table (l + m + 2) (k + 2 * length ls) top q (omega arith))))

-- and their places those of the marks
heads-append : (xs ys : List Entry) → heads (xs ++ ys) ≡ heads xs ++ heads ys
unfolding heads
heads-append [] ys = refl
heads-append (x ∷ xs) ys = ap (λ (s : List ℕ). (x.place - 1) ∷ s) (heads-append xs ys)

ends-append : (xs ys : List Entry) → ends (xs ++ ys) ≡ ends xs ++ ends ys
unfolding ends
ends-append [] ys = refl
ends-append (x ∷ xs) ys = ap (λ (s : List ℕ). x.place ∷ s) (ends-append xs ys)

unfoldable pub Closed : Alts → Type 0
Closed nil = Unit {0}
Closed (alternative ls b q) = ((l : ℕ) → places head l (marks_all b) ≡ []) × ((l : ℕ) → places end l (marks_all b) ≡ []) × Closed q

pub heads-places : (l : ℕ) (q : Alts) → Closed q → heads (entries l q) ≡ places head l (marks_alts q)
unfolding Closed entries heads marks_alts places waits number
heads-places l nil c = refl
heads-places l (alternative ls b q) c =
    let m = length (marks_all b) in
    let e : l + m + 2 ≡ l + m + 1 + 1 = omega arith in
    let f : l + m + 1 - 1 ≡ l + m = omega arith in
    heads-append (entries (l + m + 2) q) (record { labels = ls; start = l; place = l + m + 1 } ∷ [])
    ∙ (ap (λ (s : List ℕ). s ++ ((l + m + 1 - 1) ∷ [])) (heads-places (l + m + 2) q c.2 ∙ (ap (λ (k : ℕ). places head k (marks_alts q)) e ∙ sym (append-nil (places head (l + m + 1 + 1) (marks_alts q)))))
    ∙ (ap (λ (k : ℕ). (places head (l + m + 1 + 1) (marks_alts q) ++ []) ++ (k ∷ [])) f
    ∙ sym (places-append head l (marks_all b) (waiting head ∷ waiting end ∷ marks_alts q) ∙ (ap (λ (s : List ℕ). ((places head (l + m + 1 + 1) (marks_alts q) ++ []) ++ ((l + m) ∷ [])) ++ s) (c.0 l) ∙ append-nil ((places head (l + m + 1 + 1) (marks_alts q) ++ []) ++ ((l + m) ∷ []))))))

pub ends-places : (l : ℕ) (q : Alts) → Closed q → ends (entries l q) ≡ places end l (marks_alts q)
unfolding Closed entries ends marks_alts places waits number
ends-places l nil c = refl
ends-places l (alternative ls b q) c =
    let m = length (marks_all b) in
    let e : l + m + 2 ≡ l + m + 1 + 1 = omega arith in
    ends-append (entries (l + m + 2) q) (record { labels = ls; start = l; place = l + m + 1 } ∷ [])
    ∙ (ap (λ (s : List ℕ). s ++ ((l + m + 1) ∷ [])) (ends-places (l + m + 2) q c.2 ∙ ap (λ (k : ℕ). places end k (marks_alts q)) e)
    ∙ sym (places-append end l (marks_all b) (waiting head ∷ waiting end ∷ marks_alts q) ∙ (ap (λ (s : List ℕ). ((places end (l + m + 1 + 1) (marks_alts q) ++ ((l + m + 1) ∷ [])) ++ []) ++ s) (c.1 l) ∙ (append-nil ((places end (l + m + 1 + 1) (marks_alts q) ++ ((l + m + 1) ∷ [])) ++ []) ∙ append-nil (places end (l + m + 1 + 1) (marks_alts q) ++ ((l + m + 1) ∷ []))))))
