-- What linking answers for any bytes, and what it leaves: in this order the length of the common part, its reading, its names, the objects, then `link`.
use Rattle.std.specs.Prelude.{true, false, List, [], ◌≡◌, ℕ, ◌+◌, ◌%◌, length, replicate}
use Rattle.linking.specs.declared.Linked as code
use Rattle.machine.specs.Bytes.{count, words_of}
use Rattle.names.specs.Known.{good, wrong, Names}
use Rattle.objects.specs.Whole.{good_views}
use Rattle.parts.specs.Form.{AreObjects, last_length}
use Rattle.parts.specs.Link.{Linked, linked, refused, link, lent_bytes}
use Rattle.parts.specs.Objects.{common_means}
use Rattle.processor.specs.Process.{part_of}
use Rattle.syntax.specs.Parse.{end_of}
use Rattle.syntax.specs.Reading.{got, fault}
use Rattle.syntax.specs.Texts.{Common, too_long, read_common}
use Rattle.words.specs.Words.{Word}

-- the common part is one: its length, its reading and its names are in order
pub record IsCommon (common : List ℕ) (c : Common) (n : Names) : Type 0 where
  pub short : too_long common ≡ false
  pub rest : List Word
  pub reads : read_common common ≡ got c rest
  pub means : common_means c [] ≡ good n

-- the bytes are objects of it, one behind the other, and no byte more
pub record AreBytes (common : List ℕ) (c : Common) (n : Names) (objects : List ℕ) : Type 0 where
  pub even : length objects % 2 ≡ 0
  pub are : AreObjects common c n (words_of objects)

-- the answer for a lent buffer of `room` words. Text 0 is the common part; of bytes that are no objects the text is that of the first that is
-- not in order. A fault's number is never 0
pub data Answered (common objects : List ℕ) (room : ℕ) : Linked → Type 0 where
  over_long : too_long common ≡ true → Answered common objects room (refused 9 0 (part_of (end_of common)))
  unread : {k : ℕ} {w : Word} → (k ≡ 0 → ⊥) → too_long common ≡ false → read_common common ≡ fault k w → Answered common objects room (refused k 0 (part_of w))
  misnamed : {c : Common} {rest : List Word} {k : ℕ} {w : Word} → (k ≡ 0 → ⊥) → too_long common ≡ false → read_common common ≡ got c rest → common_means c [] ≡ wrong k w
      → Answered common objects room (refused k 0 (part_of w))
  no_objects : {c : Common} {n : Names} → IsCommon common c n → (AreBytes common c n objects → ⊥)
      → Answered common objects room (refused 40 (1 + good_views c.listed n common (length (words_of objects)) (words_of objects)) (record { start = 0; size = 0 }))
  -- any reading of the words gives it
  joined : {c : Common} {n : Names} {answer : Linked} → IsCommon common c n → AreBytes common c n objects
      → ((h : AreObjects common c n (words_of objects)) → answer ≡ link common c n (replicate (last_length h.lengths) 0) h.objects room)
      → Answered common objects room answer

-- the answer as the code's struct
unfoldable pub linked_as : Linked → code.Linked
linked_as (linked words verdict f) = record { number = 0; text = 0; start = 0; len = 0; words = length words; finishing = verdict; figure = f.figure; check = f.number }
linked_as (refused number text at) = record { number = number; text = text; start = at.start; len = at.size; words = 0; finishing = false; figure = 0; check = 0 }

-- the code's answer and the lent bytes are those of a
pub record Leaves (a : Linked) (old new : List ℕ) (r : code.Linked) : Type 0 where
  pub answer : r ≡ linked_as a
  pub lent : new ≡ lent_bytes a old

-- what linking leaves for these bytes
pub record Links (common objects old new : List ℕ) (r : code.Linked) : Type 0 where
  pub answer : Linked
  pub answers : Answered common objects (count old) answer
  pub leaves : Leaves answer old new r

-- all of this file computes where this is unfolded
unfoldable pub opened : Unit {0}
unfolding linked_as
opened = tt
