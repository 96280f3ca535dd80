-- The laws of groups: bytes begin with at most one group, a log reads in one way, and what is damage.
use Rattle.std.proofs.Common.{◌≡◌, ◌≢◌, ℕ, ◌+◌, ◌<◌, ◌^◌, List, [], ◌∷◌, ◌++◌, length, drop, Option, Some, refl, sym, ap, subst, ◌∙◌, append_assoc, arith}
use Rattle.std.specs.Prelude.{slice_index}
use Rattle.std.specs.Int.{w64}
use Rattle.std.specs.List.{AllByRecursion}
use Rattle.std.proofs.lemmas.List.{length-append}
use Rattle.std.proofs.lemmas.List.Concat.{flat_map-cons}
use Rattle.fp_model.specs.declared.log.Entry.{Entry}
use Rattle.fp_model.specs.Spellings.{be64}
use Rattle.fp_model.specs.LogText.{entry_text, body_text, group_text, groups_text}
use Rattle.fp_model.specs.Groups.{IsGroup, IsBody, HoldsGroups, IsDamaged, LogReading, Groups, Damage, Reads}
use Rattle.log_format.specs.Faults.{Spells}
use Rattle.log_format.specs.Reading.{number_at, part_at}
use Rattle.log_format.proofs.Fields.{law64, length-be64, part_again}
use Rattle.log_format.proofs.Bodies.{one_body, entry-some}
use Rattle.plain_laws.proofs.Lists.{head_is}

-- ---- one group

-- the number in front of bytes, and the bytes behind it
pub one_number : (n m : ℕ) (x y : List ℕ) → n < 2 ^ 64 → m < 2 ^ 64 → be64 n ++ x ≡ be64 m ++ y → (n ≡ m) × (x ≡ y)
one_number n m x y hn hm h =
    let a : number_at w64 (be64 n ++ x) ≡ Some (n, x) = law64.again n x hn in
    let b : number_at w64 (be64 n ++ x) ≡ Some (m, y) = ap (number_at w64) h ∙ law64.again m y hm in
    pair n m x y (number_at w64 (be64 n ++ x)) a b
  where
    pair : (n m : ℕ) (x y : List ℕ) (r : Option (ℕ × List ℕ)) → r ≡ Some (n, x) → r ≡ Some (m, y) → (n ≡ m) × (x ≡ y)
    pair n m x y r p q =
        let same : (n, x) ≡ (m, y) = cc in
        (ap (λ (z : ℕ × List ℕ). z.0) same, ap (λ (z : ℕ × List ℕ). z.1) same)

-- parts of one length that begin the same bytes
pub one_part : (a b x y : List ℕ) → length a ≡ length b → a ++ x ≡ b ++ y → (a ≡ b) × (x ≡ y)
one_part a b x y len h =
    pair a b x y (part_at (length b) (a ++ x)) (part_again a x (length b) len)
    (ap (part_at (length b)) h ∙ part_again b y (length b) refl)
  where
    pair : (a b x y : List ℕ) (r : Option (List ℕ × List ℕ)) → r ≡ Some (a, x) → r ≡ Some (b, y) → (a ≡ b) × (x ≡ y)
    pair a b x y r p q =
        let same : (a, x) ≡ (b, y) = cc in
        (ap (λ (z : List ℕ × List ℕ). z.0) same, ap (λ (z : List ℕ × List ℕ). z.1) same)

behind_gate : (x y : List ℕ) → 1 ∷ x ≡ 1 ∷ y → x ≡ y
behind_gate x y h = cc

-- bytes begin with one group at most
pub one_group : (es fs : List Entry) (x y : List ℕ) → IsGroup es → IsGroup fs → group_text es ++ x ≡ group_text fs ++ y
    → (es ≡ fs) × (x ≡ y)
one_group es fs x y he hf h =
    let sizes : be64 (length (body_text es)) ++ (body_text es ++ x) ≡ be64 (length (body_text fs)) ++
    (body_text fs ++ y) =
    sym (append_assoc (be64 (length (body_text es))) (body_text es) x)
    ∙ behind_gate (be64 (length (body_text es)) ++ body_text es ++ x)
    (be64 (length (body_text fs)) ++ body_text fs ++ y) h
    ∙ append_assoc (be64 (length (body_text fs))) (body_text fs) y in
    let n = one_number (length (body_text es)) (length (body_text fs)) (body_text es ++ x) (body_text fs ++ y) he.fits
    hf.fits sizes in
    let p = one_part (body_text es) (body_text fs) x y n.0 n.1 in
    (sym (one_body es fs he.each hf.each p.0), p.1)

-- ---- one reading

-- bytes that begin with no group
abbrev pub Stops : List ℕ → Type 0
Stops bytes = (entries : List Entry) (rest : List ℕ) → IsGroup entries → bytes ≢ group_text entries ++ rest

pub groups-cons : (es : List Entry) (gs : List (List Entry)) (rest : List ℕ)
    → groups_text (es ∷ gs) ++ rest ≡ group_text es ++ (groups_text gs ++ rest)
groups-cons es gs rest = ap (λ (t : List ℕ). t ++ rest) (flat_map-cons group_text es gs) ∙ append_assoc (group_text es)
    (groups_text gs) rest

cons_alike : (es fs : List Entry) (gs hs : List (List Entry)) → es ≡ fs → gs ≡ hs → es ∷ gs ≡ fs ∷ hs
cons_alike es fs gs hs p q = cc

-- groups up to where none begins are determined
pub one_list : (gs hs : List (List Entry)) (x y : List ℕ) → AllByRecursion IsGroup gs → AllByRecursion IsGroup hs
    → Stops x → Stops y
    → groups_text gs ++ x ≡ groups_text hs ++ y → (gs ≡ hs) × (x ≡ y)
one_list [] [] x y hg hh sx sy h = (refl, h)
one_list [] (fs ∷ hs) x y hg hh sx sy h = absurd (sx fs (groups_text hs ++ y) hh.0 (h ∙ groups-cons fs hs y))
one_list (es ∷ gs) [] x y hg hh sx sy h = absurd (sy es (groups_text gs ++ x) hg.0 (sym h ∙ groups-cons es gs x))
one_list (es ∷ gs) (fs ∷ hs) x y hg hh sx sy h =
    let a = one_group es fs (groups_text gs ++ x) (groups_text hs ++ y) hg.0 hh.0
    (sym (groups-cons es gs x) ∙ h ∙ groups-cons fs hs y) in
    let b = one_list gs hs x y hg.1 hh.1 sx sy a.1 in
    (cons_alike es fs gs hs a.0 b.0, b.1)

-- where the gate isn't open no group begins
closed_stops : (bytes : List ℕ) (gate : ℕ) → slice_index bytes gate ≢ 1 → Stops (drop gate bytes)
closed_stops bytes gate closed entries rest group h =
    closed (head_is bytes gate 1 (be64 (length (body_text entries)) ++ body_text entries ++ rest) h)

-- two ways to hold groups up to where none begins are one
pub one_holding : (bytes : List ℕ) (at : ℕ) (gs hs : List (List Entry)) (gate gate2 : ℕ) → HoldsGroups bytes at gs gate
    → HoldsGroups bytes at hs gate2
    → Stops (drop gate bytes) → Stops (drop gate2 bytes) → (gs ≡ hs) × (gate ≡ gate2)
one_holding bytes at gs hs gate gate2 a b sa sb =
    let same = one_list gs hs (drop gate bytes) (drop gate2 bytes) a.each b.each sa sb (sym a.text ∙ b.text) in
    (same.0, a.next ∙ ap (λ (x : List (List Entry)). at + length (groups_text x)) same.0 ∙ sym b.next)

open_and_closed : (bytes : List ℕ) (gate gate2 : ℕ) → gate ≡ gate2 → slice_index bytes gate ≢ 1
    → slice_index bytes gate2 ≡ 1 → ⊥
open_and_closed bytes gate gate2 same closed is_open = closed (ap (slice_index bytes) same ∙ is_open)

groups_alike : (gs hs : List (List Entry)) (gate gate2 : ℕ) → gs ≡ hs → gate ≡ gate2 → Groups gs gate ≡ Groups hs gate2
groups_alike gs hs gate gate2 p q = cc

-- reading from a gate on has one answer at most
pub one_reading : (bytes : List ℕ) (at : ℕ) (a b : LogReading) → Reads bytes at a → Reads bytes at b → a ≡ b
one_reading bytes at (Groups gs gate) (Groups hs gate2) p q =
    let same = one_holding bytes at gs hs gate gate2 p.0 q.0 (closed_stops bytes gate p.1)
    (closed_stops bytes gate2 q.1) in
    groups_alike gs hs gate gate2 same.0 same.1
one_reading bytes at (Groups gs gate) (Damage place) p q =
    let same = one_holding bytes at gs q.0 gate place p.0 q.1 (closed_stops bytes gate p.1) q.2.no_group in
    absurd (open_and_closed bytes gate place same.1 p.1 q.2.gate)
one_reading bytes at (Damage place) (Groups hs gate) p q =
    let same = one_holding bytes at hs p.0 gate place q.0 p.1 (closed_stops bytes gate q.1) p.2.no_group in
    absurd (open_and_closed bytes gate place same.1 q.1 p.2.gate)
one_reading bytes at (Damage place) (Damage place2) p q =
    let same = one_holding bytes at p.0 q.0 place place2 p.1 q.1 p.2.no_group q.2.no_group in
    ap Damage same.1

-- ---- damage

-- an open gate, a length, so many bytes that are no body, and any others: damage
pub no_body : (bytes : List ℕ) (at size : ℕ) (body rest : List ℕ) → drop at bytes ≡ 1 ∷ be64 size ++ body ++ rest
    → size < 2 ^ 64 → length body ≡ size
    → ((entries : List Entry) → IsBody body entries → ⊥) → IsDamaged bytes at
no_body bytes at size body rest text small len none = record {
  gate = head_is bytes at 1 (be64 size ++ body ++ rest) text;
  no_group = λ entries more group h.
      let sizes : be64 size ++ (body ++ rest) ≡ be64 (length (body_text entries)) ++ (body_text entries ++ more) =
      sym (append_assoc (be64 size) body rest)
      ∙ behind_gate (be64 size ++ body ++ rest) (be64 (length (body_text entries)) ++ body_text entries ++ more)
      (sym text ∙ h)
      ∙ append_assoc (be64 (length (body_text entries))) (body_text entries) more in
      let n = one_number size (length (body_text entries)) (body ++ rest) (body_text entries ++ more) small group.fits
      sizes in
      let p = one_part body (body_text entries) rest more (len ∙ n.0) n.1 in
      none entries (group, p.0);
}

-- an open gate and a length that passes the end of the bytes: damage
pub past_end : (bytes : List ℕ) (at size : ℕ) (rest : List ℕ) → drop at bytes ≡ 1 ∷ be64 size ++ rest → size < 2 ^ 64
    → length rest < size → IsDamaged bytes at
past_end bytes at size rest text small short = record {
  gate = head_is bytes at 1 (be64 size ++ rest) text;
  no_group = λ entries more group h.
      let sizes : be64 size ++ rest ≡ be64 (length (body_text entries)) ++ (body_text entries ++ more) =
      behind_gate (be64 size ++ rest) (be64 (length (body_text entries)) ++ body_text entries ++ more) (sym text ∙ h)
      ∙ append_assoc (be64 (length (body_text entries))) (body_text entries) more in
      let n = one_number size (length (body_text entries)) rest (body_text entries ++ more) small group.fits sizes in
      omega (arith, short, n.0, ap length n.1, length-append (body_text entries) more);
}

-- an open gate with fewer than eight bytes behind it: damage
pub no_length : (bytes : List ℕ) (at : ℕ) (rest : List ℕ) → drop at bytes ≡ 1 ∷ rest → length rest < 8
    → IsDamaged bytes at
no_length bytes at rest text short = record {
  gate = head_is bytes at 1 rest text;
  no_group = λ entries more group h.
      let same : rest ≡ be64 (length (body_text entries)) ++ body_text entries ++ more =
      behind_gate rest (be64 (length (body_text entries)) ++ body_text entries ++ more) (sym text ∙ h) in
      let size = be64 (length (body_text entries)) in
      omega (
        arith,
        short,
        ap length same,
        length-append (size ++ body_text entries) more,
        length-append size (body_text entries),
        length-be64 (length (body_text entries)),
      );
}

-- no bytes are no body
pub no_bytes : (entries : List Entry) → IsBody [] entries → ⊥
no_bytes [] body = omega (arith, body.0.some)
no_bytes (e ∷ entries) body = omega (
  arith,
  ap length (body.1 ∙ flat_map-cons entry_text e entries),
  entry-some e (body_text entries),
)

-- some entries, one after another, are a body
pub some_body : (bytes : List ℕ) (entries : List Entry) → Spells bytes entries → bytes ≢ [] → length bytes < 2 ^ 64
    → IsBody bytes entries
some_body bytes [] spells some fits = absurd (some spells.text)
some_body bytes (e ∷ entries) spells some fits = (
  record {
    some = omega arith;
    each = spells.each;
    fits =
        subst (λ (t : List ℕ). length t < 2 ^ 64) spells.text fits;
  },
  spells.text,
)

-- a body is entries, one after another
pub body_spells : (bytes : List ℕ) (entries : List Entry) → IsBody bytes entries → Spells bytes entries
body_spells bytes entries body = record { each = body.0.each; text = body.1 }
