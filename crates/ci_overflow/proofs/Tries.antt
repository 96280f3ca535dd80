-- Intervals that are tried one after the other.
use Rattle.std.proofs.Common.{◌≡◌, ◌≢◌, ℕ, zero, suc, ◌+◌, ◌-◌, ◌<◌, ◌≤◌, inl, inr, List, [], ◌∷◌, ◌++◌, length, Option, Some, None, IfSome, IfNone, refl, sym, ap, ◌∙◌, subst, arith}
use Rattle.std.specs.List.{All}
use Rattle.std.proofs.lemmas.List.Elements.{All-nil, All-cons, All-head, All-tail, All-append}
use Rattle.ci_space.specs.Element.{Element, Free, Used, free_size, size_for, rest_free}
use Rattle.ci_space.proofs.Standing.{Tiles-unique, takes-used}
use Rattle.ci_space.proofs.Contents.{used-length}
use Rattle.ci_space.specs.Interval.{kind_of, HasRoom, IsUsed, IsFull, OthersStay, Keeps}
use Rattle.ci_space.specs.Interval.{Takes}
use Rattle.ci_space.specs.Head.{head_of}
use Rattle.ci_space.proofs.Places.{big_from-keeps}
use Rattle.ci_overflow.specs.declared.reading.Tried.{Tried}
use Rattle.ci_overflow.specs.Lists.{bytes_at, link_of, owner_of, IsChain}
use Rattle.ci_overflow.specs.Rooms.{numbers_from, AreFull, IsFirst, HasSizeFor, TakesIn, IsPut, IsInUse, TakesAt, IsTried, AreTried}
use Rattle.ci_overflow.specs.inside.Rooms.{IsLeft, IsOnChain}

-- a head that stays has its link and its owner
pub keeps-link : (old new : List ℕ) → Keeps old new 0 32 → link_of new ≡ link_of old
unfolding link_of
keeps-link old new k = big_from-keeps 8 16 old new (λ i x y. k i (omega arith) (omega arith))

pub keeps-owner : (old new : List ℕ) → Keeps old new 0 32 → owner_of new ≡ owner_of old
unfolding owner_of
keeps-owner old new k = big_from-keeps 8 24 old new (λ i x y. k i (omega arith) (omega arith))

pub head-link : (bytes : List ℕ) (link : ℕ) → link ≡ (head_of bytes).link → link ≡ link_of bytes
unfolding link_of
head-link bytes link e = e

pub head-owner : (bytes : List ℕ) (owner : ℕ) → owner ≡ (head_of bytes).owner → owner ≡ owner_of bytes
unfolding owner_of
head-owner bytes owner e = e

-- one interval
in-use : (bytes : List ℕ) (kind owner : ℕ) → kind_of bytes ≡ kind → owner_of bytes ≡ owner → kind ≢ 1
    → (kind ≡ 5 → owner ≢ 0) → IsInUse bytes
in-use bytes kind owner k o n u = record {
  is_no_control = λ e. n (sym k ∙ e);
  is_owned =
      λ e z. u (sym k ∙ e) (sym o ∙ z);
}

-- the new element has the bytes that it needs
pub takes-exact : (old new : List ℕ) (n at : ℕ) → Takes old new n at → HasSizeFor new at n
takes-exact old new n at t segment content u =
    sym (used-length new at segment content u) ∙ used-length new at 0 t.content (takes-used old new n at t) ∙ t.is_size

taken-in : (old new : List ℕ) (n at : ℕ) → Takes old new n at → HasRoom new at n → ¬ IsUsed old at
    → OthersStay old new at → TakesIn old new n at
taken-in old new n at t r f o = record {
  room = r;
  exact = takes-exact old new n at t;
  fresh = f;
  others = o;
  is_interval =
      record { elements = _; tiles = t.now };
}

-- ---- what is said of all of a list is said of its parts
All-left : {X : Type 0} (P : X → Type 0) (xs ys : List X) → All P (xs ++ ys) → All P xs
All-left P [] ys a = All-nil P
All-left P (x ∷ xs) ys a = All-cons P x xs (All-head P x (xs ++ ys) a) (All-left P xs ys (All-tail P x (xs ++ ys) a))

All-right : {X : Type 0} (P : X → Type 0) (xs ys : List X) → All P (xs ++ ys) → All P ys
All-right P [] ys a = a
All-right P (x ∷ xs) ys a = All-right P xs ys (All-tail P x (xs ++ ys) a)

-- what no free element holds, none holds when one of them is taken
rest-smaller : (k m : ℕ) → k < m → All (λ e. free_size e < m) (rest_free k)
rest-smaller zero m l = All-nil (λ e. free_size e < m)
rest-smaller (suc k) m l = All-cons (λ e. free_size e < m) (Free (suc k)) [] l (All-nil (λ e. free_size e < m))

pub takes-fuller : (old new : List ℕ) (n at m : ℕ) → Takes old new n at → IsFull old m → IsFull new m
takes-fuller old new n at m t f =
    let P : Element → Type 0 = λ e. free_size e < size_for m in
    let all : All P (t.before ++ Free t.free ∷ t.after) = subst (λ es. All P es)
    (Tiles-unique old f.elements (t.before ++ Free t.free ∷ t.after) f.tiles t.was) f.smaller in
    let front : All P t.before = All-left P t.before (Free t.free ∷ t.after) all in
    let back : All P (Free t.free ∷ t.after) = All-right P t.before (Free t.free ∷ t.after) all in
    let here : t.free < size_for m = All-head P (Free t.free) t.after back in
    let rest : List Element = rest_free (t.free - size_for n) in
    let now : All P (Used 0 t.content ∷ rest) = All-cons P (Used 0 t.content) rest (omega (arith, here))
    (rest-smaller (t.free - size_for n) (size_for m) (omega (arith, here))) in
    record {
      elements = t.before ++ Used 0 t.content ∷ rest ++ t.after;
      tiles = t.now;
      smaller = All-append P (t.before ++ Used 0 t.content ∷ rest) t.after
          (All-append P t.before (Used 0 t.content ∷ rest) front now) (All-tail P (Free t.free) t.after back);
    }

pub tried-taken : (old mid new : List (List ℕ)) (interval taken : List ℕ) (ci kind owner n at link : ℕ) → mid ≡ old
    → interval ≡ bytes_at old ci → ci < length old
    → kind_of interval ≡ kind → owner_of interval ≡ owner → kind ≢ 1 → (kind ≡ 5 → owner ≢ 0)
    → link ≡ (head_of interval).link
    → Takes interval taken n at → HasRoom taken at n → ¬ IsUsed interval at → OthersStay interval taken at
    → Keeps interval taken 0 32 → IsPut mid new ci taken
    → IsTried old new ci n (record { at = Some at; link = link })
tried-taken old mid new interval taken ci kind owner n at link m i b k o nk nz l t r f os h p =
    let same : (other : ℕ) → bytes_at mid other ≡ bytes_at old other = λ other. ap (λ xs. bytes_at xs other) m in
    let u : IsInUse (bytes_at old ci) = rw i at (in-use interval kind owner k o nk nz) in
    let e : TakesIn (bytes_at old ci) (bytes_at new ci) n at =
    rw (p.here, ← i) (taken-in interval taken n at t r f os) in
    let w : Keeps (bytes_at old ci) (bytes_at new ci) 0 32 = rw (p.here, ← i) h in
    let g : link ≡ link_of (bytes_at old ci) = head-link interval link l ∙ ap link_of i in
    record {
      link = g;
      some = record {
        below = b;
        is_in_use = u;
        takes = e;
        head = w;
        fuller = λ k x. subst (λ b. IsFull b k) (sym p.here)
            (takes-fuller interval taken n at k t (subst (λ b. IsFull b k) (sym i) x));
        others = λ other x. p.others other x ∙ same other;
        same_number = p.same_number ∙ ap length m;
      };
      none = tt;
    }

pub tried-full : (old mid : List (List ℕ)) (interval : List ℕ) (ci n link : ℕ) → mid ≡ old → interval ≡ bytes_at old ci
    → link ≡ (head_of interval).link → IsFull interval n
    → IsTried old mid ci n (record { at = None; link = link })
tried-full old mid interval ci n link m i l f =
    let w : IsFull (bytes_at old ci) n = rw (← i) f in
    let g : link ≡ link_of (bytes_at old ci) = head-link interval link l ∙ ap link_of i in
    record { link = g; some = tt; none = (w, m) }

-- what is left to try
pub left-itself : (area : List (List ℕ)) (n : ℕ) (all : List ℕ) → IsLeft area n all all
left-itself area n all = record { first = λ ci f. f; full = λ f. f }

pub left-next : (area : List (List ℕ)) (n ci : ℕ) (all rest : List ℕ) → IsFull (bytes_at area ci) n
    → IsLeft area n all (ci ∷ rest) → IsLeft area n all rest
left-next area n ci all rest f l = record { first = λ other x. l.first other (inr (f, x)); full = λ x. l.full (f, x) }

pub numbers-next : (first n m : ℕ) → n ≡ suc m → numbers_from first n ≡ first ∷ numbers_from (first + 1) m
numbers-next first n m e = ap (numbers_from first) e

-- the walk over numbers
pub numbers-left : (area : List (List ℕ)) (n ci end : ℕ) (all : List ℕ) → ci < end → IsFull (bytes_at area ci) n
    → IsLeft area n all (numbers_from ci (end - ci)) → IsLeft area n all (numbers_from (ci + 1) (end - (ci + 1)))
numbers-left area n ci end all b f l =
    let e : end - ci ≡ suc (end - (ci + 1)) = omega arith in
    let k : numbers_from ci (end - ci) ≡ ci ∷ numbers_from (ci + 1) (end - (ci + 1)) =
    numbers-next ci (end - ci) (end - (ci + 1)) e in
    left-next area n ci all (numbers_from (ci + 1) (end - (ci + 1))) f (rw k at l)

pub numbers-found : (area : List (List ℕ)) (n ci end : ℕ) (all : List ℕ) → ci < end
    → IsLeft area n all (numbers_from ci (end - ci)) → IsFirst area n all ci
numbers-found area n ci end all b l =
    let e : end - ci ≡ suc (end - (ci + 1)) = omega arith in
    let k : numbers_from ci (end - ci) ≡ ci ∷ numbers_from (ci + 1) (end - (ci + 1)) =
    numbers-next ci (end - ci) (end - (ci + 1)) e in
    let m = rw k at l in
    m.first ci (inl refl)

pub numbers-done : (area : List (List ℕ)) (n ci end : ℕ) (all : List ℕ) → end ≤ ci
    → IsLeft area n all (numbers_from ci (end - ci)) → AreFull area n all
numbers-done area n ci end all b l =
    let e : end - ci ≡ 0 = omega arith in
    let m = rw e at l in
    m.full tt

-- the walk over a chain
pub chain-begins : (area : List (List ℕ)) (n first : ℕ) → IsOnChain area n first first
chain-begins area n first = record { left = λ chain c. (chain, c, left-itself area n chain) }

chain_next : (area : List (List ℕ)) (n ci : ℕ) (all rest : List ℕ) → ci ≢ 0 → IsFull (bytes_at area ci) n
    → IsChain area ci rest → IsLeft area n all rest
    → (next : List ℕ) × IsChain area (link_of (bytes_at area ci)) next × IsLeft area n all next
chain_next area n ci all [] z f c l = absurd (z c)
chain_next area n ci all (x ∷ rest) z f c l =
    let g : IsFull (bytes_at area x) n = rw (← c.0) f in
    let d : IsChain area (link_of (bytes_at area ci)) rest = rw c.0 c.2 in
    (rest, d, left-next area n x all rest g l)

pub chain-next : (area : List (List ℕ)) (n first ci next : ℕ) → ci ≢ 0 → IsFull (bytes_at area ci) n
    → next ≡ link_of (bytes_at area ci) → IsOnChain area n first ci → IsOnChain area n first next
chain-next area n first ci next z f e w = record {
  left = λ chain c.
      let l = w.left chain c in
      let m = chain_next area n ci chain l.0 z f l.1 l.2 in
      (m.0, rw e m.1, m.2);
}

chain_found : (area : List (List ℕ)) (n ci : ℕ) (all rest : List ℕ) → ci ≢ 0 → IsChain area ci rest
    → IsLeft area n all rest → IsFirst area n all ci
chain_found area n ci all [] z c l = absurd (z c)
chain_found area n ci all (x ∷ rest) z c l = l.first ci (inl (sym c.0))

pub chain-found : (area : List (List ℕ)) (n first ci : ℕ) (chain : List ℕ) → ci ≢ 0 → IsOnChain area n first ci
    → IsChain area first chain → IsFirst area n chain ci
chain-found area n first ci chain z w c = let l = w.left chain c in chain_found area n ci chain l.0 z l.1 l.2

chain_done : (area : List (List ℕ)) (n ci : ℕ) (all rest : List ℕ) → ci ≡ 0 → IsChain area ci rest
    → IsLeft area n all rest → AreFull area n all
chain_done area n ci all [] z c l = l.full tt
chain_done area n ci all (x ∷ rest) z c l = absurd (c.1 (sym c.0 ∙ z))

pub chain-done : (area : List (List ℕ)) (n first ci : ℕ) (chain : List ℕ) → ci ≡ 0 → IsOnChain area n first ci
    → IsChain area first chain → AreFull area n chain
chain-done area n first ci chain z w c = let l = w.left chain c in chain_done area n ci chain l.0 z l.1 l.2

-- one list behind another
first-left : (area : List (List ℕ)) (n ci : ℕ) (xs ys : List ℕ) → IsFirst area n xs ci → IsFirst area n (xs ++ ys) ci
first-left area n ci [] ys f = absurd f
first-left area n ci (x ∷ xs) ys (inl f) = inl f
first-left area n ci (x ∷ xs) ys (inr f) = inr (f.0, first-left area n ci xs ys f.1)

first-right : (area : List (List ℕ)) (n ci : ℕ) (xs ys : List ℕ) → AreFull area n xs → IsFirst area n ys ci
    → IsFirst area n (xs ++ ys) ci
first-right area n ci [] ys f g = g
first-right area n ci (x ∷ xs) ys f g = inr (f.0, first-right area n ci xs ys f.1 g)

full-both : (area : List (List ℕ)) (n : ℕ) (xs ys : List ℕ) → AreFull area n xs → AreFull area n ys
    → AreFull area n (xs ++ ys)
full-both area n [] ys f g = g
full-both area n (x ∷ xs) ys f g = (f.0, full-both area n xs ys f.1 g)

pub tried-left : (old new : List (List ℕ)) (n : ℕ) (xs ys : List ℕ) (room : ℕ × ℕ) → AreTried old new xs n (Some room)
    → AreTried old new (xs ++ ys) n (Some room)
tried-left old new n xs ys room t = record { some = (first-left old n room.0 xs ys t.some.0, t.some.1); none = tt }

pub tried-right : (old new : List (List ℕ)) (n : ℕ) (xs ys : List ℕ) (room : Option (ℕ × ℕ)) → AreFull old n xs
    → AreTried old new ys n room → AreTried old new (xs ++ ys) n room
tried-right old new n xs ys None f t = record { some = tt; none = (full-both old n xs ys f t.none.0, t.none.1) }
tried-right old new n xs ys (Some room) f t = record
    { some = (first-right old n room.0 xs ys f t.some.0, t.some.1); none = tt }

-- what an interval gave that was tried
pub option_some : {X : Type 0} (o : Option X) (x : X) (P : X → Type 0) → o ≡ Some x → IfSome o P → P x
option_some {X} o x P e h = let Q : Option X → Type 0 = λ o. IfSome o P in subst Q e h

pub gives-taken : (old new : List (List ℕ)) (ci n at : ℕ) (tried : Tried) → IsTried old new ci n tried
    → tried.at ≡ Some at → TakesAt old new ci n at
gives-taken old new ci n at tried t e = option_some tried.at at (TakesAt old new ci n) e t.some

pub tried-some : (old new : List (List ℕ)) (all : List ℕ) (n ci at : ℕ) → IsFirst old n all ci → TakesAt old new ci n at
    → AreTried old new all n (Some (ci, at))
tried-some old new all n ci at f t = record { some = (f, t); none = tt }

pub tried-none : (old new : List (List ℕ)) (all : List ℕ) (n : ℕ) → AreFull old n all → new ≡ old
    → AreTried old new all n None
tried-none old new all n f e = record { some = tt; none = (f, e) }

pub option_none : {X : Type 0} (o : Option X) (Q : Type 0) → o ≡ None → IfNone o Q → Q
option_none {X} o Q e h = let P : Option X → Type 0 = λ o. IfNone o Q in subst P e h

pub gives-full : (old new : List (List ℕ)) (ci n : ℕ) (tried : Tried) → IsTried old new ci n tried → tried.at ≡ None
    → IsFull (bytes_at old ci) n × (new ≡ old)
gives-full old new ci n tried t e = option_none tried.at (IsFull (bytes_at old ci) n × (new ≡ old)) e t.none

behind-base : (old new : List (List ℕ)) (base n : ℕ) (xs : List ℕ) (room : Option (ℕ × ℕ))
    → IsFull (bytes_at old base) n → AreTried old new xs n room → AreTried old new (base ∷ xs) n room
behind-base old new base n xs room f t = tried-right old new n (base ∷ []) xs room (f, tt) t

pub standing-room : (old m1 new : List (List ℕ)) (base n : ℕ) (xs ys : List ℕ) (o : Option (ℕ × ℕ)) (room : ℕ × ℕ)
    → IsFull (bytes_at old base) n → m1 ≡ old → AreTried m1 new xs n o → o ≡ Some room
    → AreTried old new (base ∷ (xs ++ ys)) n (Some room)
standing-room old m1 new base n xs ys o room f m t e =
    let u : AreTried old new xs n (Some room) = rw (m, e) at t in
    behind-base old new base n (xs ++ ys) (Some room) f (tried-left old new n xs ys room u)

pub standing-rest : (old m1 m2 m3 new : List (List ℕ)) (base n : ℕ) (xs ys : List ℕ) (o : Option (ℕ × ℕ))
    (room : Option (ℕ × ℕ)) → IsFull (bytes_at old base) n → m1 ≡ old → AreTried m1 m2 xs n o → o ≡ None
    → m3 ≡ m2 → AreTried m3 new ys n room → AreTried old new (base ∷ (xs ++ ys)) n room
standing-rest old m1 m2 m3 new base n xs ys o room f m t e s u =
    let v : AreTried old m2 xs n None = rw (m, e) at t in
    let w : m3 ≡ old = s ∙ v.none.1 in
    let x : AreTried old new ys n room = rw w at u in
    behind-base old new base n (xs ++ ys) room f (tried-right old new n xs ys room v.none.0 x)

pub none-same : (old new : List (List ℕ)) (n : ℕ) (xs : List ℕ) (o : Option (ℕ × ℕ)) → AreTried old new xs n o
    → o ≡ None → new ≡ old
none-same old new n xs o t e = let v : AreTried old new xs n None = rw e at t in v.none.1

pub chain-again : (old m2 m3 : List (List ℕ)) (link first given : ℕ) (shared : List ℕ) → m2 ≡ old → m3 ≡ m2
    → given ≡ first → link ≡ link_of (bytes_at m2 given)
    → IsChain old (link_of (bytes_at old first)) shared → IsChain m3 link shared
chain-again old m2 m3 link first given shared p q g l c =
    let e : m3 ≡ old = q ∙ p in
    let h : link ≡ link_of (bytes_at old first) = l ∙ ap (λ a. link_of (bytes_at a given)) p ∙ ap
    (λ x. link_of (bytes_at old x)) g in
    let d : IsChain old link shared = rw (← h) at c in
    rw (← e) at d
