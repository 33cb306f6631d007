-- A session judged message by message.
use Rattle.std.proofs.Common.{◌≡◌, ℕ, zero, suc, ◌+◌, ◌*◌, ◌^◌, ◌-◌, ◌<◌, ◌≤◌, true, false, Some}
use Rattle.std.proofs.Common.{None, List, [], ◌∷◌, slice_get, length, take, drop, map, refl}
use Rattle.std.proofs.Common.{sym, ap, ◌∙◌, arith, subst}
use Rattle.std.specs.declared.result.Result.TheVariants.{Ok, Err}
use Rattle.std.proofs.lemmas.List.{length-drop, length-take, drop-drop, take_all}
use Rattle.std.proofs.lemmas.List.Sums.{count_by-le-length}
use Rattle.std.proofs.lemmas.Option.{slice_get_within}
use Rattle.wl_sigs.specs.Tables.{Interface}
use Rattle.wl_message.specs.Cut.{is_size, front, Front, More, Bad, Whole}
use Rattle.wl_message.proofs.Cuts.{front_spoiled}
use Rattle.wl_objects.specs.declared.error.Fault.{Fault}
use Rattle.wl_recording.specs.declared.piece.Direction.{Direction}
use Rattle.wl_recording.specs.declared.piece.Direction.TheVariants.{ToServer, ToClient}
use Rattle.wl_check.specs.declared.session_state.SessionState.{SessionState}
use Rattle.wl_check.specs.declared.session_state.SessionStatus.{SessionStatus}
use Rattle.wl_check.specs.declared.session_state.SessionStatus.TheVariants.{Open, Ended, Broken}
use Rattle.wl_check.specs.declared.changes.MessageChanges.{MessageChanges}
use Rattle.wl_check.specs.declared.frames.FramedMessage.{FramedMessage}
use Rattle.wl_check.specs.declared.progress.Progress.{Progress}
use Rattle.wl_check.specs.declared.progress.Tally.{Tally}
use Rattle.wl_check.specs.SessionState.{IsAt, is_going, IsEnd, IsTallied, StatusIs, end_in, IsJudged}
use Rattle.wl_check.specs.SessionState.{Comes, WentOn, CutFollows, AllJudged}
use Rattle.wl_check.specs.Session.{ArePassed}
use Rattle.wl_check.specs.Changes.{Call, changes}
use Rattle.wl_check.specs.Merged.{Span, span, Cutting, cutting, cut_by_front, cut_bad_at, cut_stopped_at, span_then_cut}
use Rattle.wl_check.specs.Merged.{framed, same_direction}
use Rattle.wl_check.specs.Places.{IsKnownBehind}
use Rattle.wl_check.specs.Rules.{judged_front}
use Rattle.wl_check.specs.Seen.{known_in, size_of, taken_of_direction, tally_after, tally_in}
use Rattle.wl_check.specs.Session.{Session, Judged, messages}
use Rattle.wl_check.specs.Deserved.{first_with, undeserved_id, TellsUndeserved}
use Rattle.wl_check.proofs.Undeserved.{undeserved_next}
use Rattle.wl_check.proofs.MessagesOfStream.{next_within, step}
use Rattle.wl_check.proofs.Examined.{at_next, ends_is, found_is, passed_next}
use Rattle.wl_check.proofs.LongerRecording.{size_least}

pub open_passed : (tables : List Interface) (s : Session) (k : ℕ) (status : SessionStatus) → is_going status ≡ true
    → StatusIs tables s k status → ArePassed (messages tables s) k
open_passed tables s k Open e h = h
open_passed tables s k Ended e h = absurd (cc e)
open_passed tables s k (Broken frame fault) e h = absurd (cc e)

pub end_within : {A : Type 0} (tables : List Interface) (s : Session) (k : ℕ) (p : Progress A) (d : Direction)
    → IsAt tables s k p → (tally_in p d).end ≤ length (s.streams d)
end_within tables s k p ToServer at = at.to_server.within
end_within tables s k p ToClient at = at.to_client.within

few_counted : (s : Session) (k : ℕ) (d : Direction) (t : Tally) → IsTallied s k d t → t.count ≤ k
few_counted s k d t i =
    let c = i.count_is in
    let n = count_by-le-length (λ (f : FramedMessage). same_direction f.direction d) (take k s.frames) in
    let l = length-take k s.frames in
    omega (arith, c, n, l)

pub count_few : {A : Type 0} (tables : List Interface) (s : Session) (k : ℕ) (p : Progress A) (d : Direction)
    → IsAt tables s k p → (tally_in p d).count ≤ k
count_few tables s k p ToServer at = few_counted s k ToServer p.to_server at.to_server
count_few tables s k p ToClient at = few_counted s k ToClient p.to_client at.to_client

-- ---- the next message

-- the next message is within its stream
pub message_within : {A : Type 0} (limit : ℕ) (tables : List Interface) (s : Session) (c : SessionState A)
    (f : FramedMessage) (rest : List ℕ) → Comes limit tables s c f rest → is_size limit f.size ≡ true
    → f.start + f.size ≤ length (s.streams f.direction)
message_within limit tables s c f rest h good =
    let l = length-drop f.start (s.streams f.direction) in
    let e = ap (λ (b : List ℕ). length b) h.rest_is in
    let w = h.whole good in
    let n = size_least limit f.size good in
    omega (arith, l, e, w, n)

pub few_judged : {A : Type 0} (tables : List Interface) (s : Session) (c : SessionState A)
    → IsJudged tables s c → c.count < 2 ^ 62
few_judged tables s c j = let few = j.few in let a = j.small_to_server in let b = j.small_to_client
    in omega (arith, few, a, b)

pub taken_few : {A : Type 0} (tables : List Interface) (s : Session) (c : SessionState A) (d : Direction)
    → IsJudged tables s c → taken_of_direction c.progress.known d < 2 ^ 127
taken_few tables s c ToServer j = let few = few_judged tables s c j in let taken = j.at.taken_to_server
    in omega (arith, few, taken)
taken_few tables s c ToClient j = let few = few_judged tables s c j in let taken = j.at.taken_to_client
    in omega (arith, few, taken)

-- what the code finds is the session's next judgement
pub next_is : {A : Type 0} (limit : ℕ) (tables : List Interface) (s : Session) (c : SessionState A)
    (f : FramedMessage) (rest : List ℕ) (x : Judged) → Comes limit tables s c f rest
    → x ≡ judged_front limit tables (known_in c.progress.known) rest f → slice_get (messages tables s) c.count ≡ Some x
next_is limit tables s c f rest x h is =
    found_is tables s c.count f c.progress rest x h.stands h.judged.at h.rest_is
    (is ∙ ap (λ (n : ℕ). judged_front n tables (known_in c.progress.known) rest f) (sym h.limit_is))

pub judged_broken : {A : Type 0} (limit : ℕ) (tables : List Interface) (s : Session) (c n : SessionState A)
    (f : FramedMessage) (rest : List ℕ) (fault : Fault) → Comes limit tables s c f rest
    → Err fault ≡ judged_front limit tables (known_in c.progress.known) rest f
    → n ≡ record c { status = Broken f fault } → IsJudged tables s n
judged_broken {A} limit tables s c n f rest fault h is n_is =
    subst (λ (x : SessionState A). IsJudged tables s x) (sym n_is) (record {
      at = h.judged.at;
      status = record {
        stands = h.stands;
        is = next_is limit tables s c f rest (Err fault) h is;
        passed = open_passed tables s c.count c.status h.going h.judged.status;
      };
      undeserved = h.judged.undeserved;
      within = h.judged.within;
      few = h.judged.few;
      small_to_server = h.judged.small_to_server;
      small_to_client = h.judged.small_to_client;
    })

-- ---- after a message that keeps the rules

-- What the code did for the message.
pub record Goes {A : Type 0} (tables : List Interface) (c n : SessionState A) (f : FramedMessage)
    (call : Call) (e : MessageChanges) : Type 0 where
  pub changes_are : e ≡ changes tables call
  pub known : IsKnownBehind (c.count + 1) e (known_in c.progress.known) (known_in n.progress.known)
  pub to_server : n.progress.to_server ≡ tally_after ToServer f c.progress.to_server
  pub to_client : n.progress.to_client ≡ tally_after ToClient f c.progress.to_client
  pub few_to_server : n.progress.known.taken_to_server < c.progress.known.taken_to_server + 2 ^ 64
  pub few_to_client : n.progress.known.taken_to_client < c.progress.known.taken_to_client + 2 ^ 64
  pub count : n.count ≡ c.count + 1
  pub undeserved : n.undeserved
      ≡ first_with c.undeserved (c.count + 1) (undeserved_id tables (known_in c.progress.known) e)

few_step : {A : Type 0} (c n : SessionState A) (f : FramedMessage) (d : Direction) → f.direction ≡ d
    → n.progress.to_server ≡ tally_after ToServer f c.progress.to_server
    → n.progress.to_client ≡ tally_after ToClient f c.progress.to_client
    → f.start ≡ end_in c d → 8 ≤ f.size → c.count * 8 ≤ c.progress.to_server.end + c.progress.to_client.end
    → (c.count + 1) * 8 ≤ n.progress.to_server.end + n.progress.to_client.end
few_step c n f ToServer e a b h l few =
    let x : n.progress.to_server.end ≡ f.start + f.size = rw (a, e) refl in
    let y : n.progress.to_client.end ≡ c.progress.to_client.end = rw (b, e) refl in
    omega (arith, x, y, h, l, few)
few_step c n f ToClient e a b h l few =
    let x : n.progress.to_client.end ≡ f.start + f.size = rw (b, e) refl in
    let y : n.progress.to_server.end ≡ c.progress.to_server.end = rw (a, e) refl in
    omega (arith, x, y, h, l, few)

small_step : {A : Type 0} (c n : SessionState A) (f : FramedMessage) (d : Direction) (len : ℕ) → f.direction ≡ d
    → n.progress.to_server ≡ tally_after ToServer f c.progress.to_server
    → n.progress.to_client ≡ tally_after ToClient f c.progress.to_client
    → f.start + f.size ≤ len → len < 2 ^ 64 → c.progress.to_server.end < 2 ^ 64 → c.progress.to_client.end < 2 ^ 64
    → (n.progress.to_server.end < 2 ^ 64) × (n.progress.to_client.end < 2 ^ 64)
small_step c n f ToServer len e a b h l v w =
    let x : n.progress.to_server.end ≡ f.start + f.size = rw (a, e) refl in
    let y : n.progress.to_client.end ≡ c.progress.to_client.end = rw (b, e) refl in
    (omega (arith, x, h, l), omega (arith, y, w))
small_step c n f ToClient len e a b h l v w =
    let x : n.progress.to_client.end ≡ f.start + f.size = rw (b, e) refl in
    let y : n.progress.to_server.end ≡ c.progress.to_server.end = rw (a, e) refl in
    (omega (arith, y, v), omega (arith, x, h, l))

judged_so : {A : Type 0} (limit : ℕ) (tables : List Interface) (s : Session) (c n : SessionState A)
    (f : FramedMessage) (rest : List ℕ) (call : Call) (e : MessageChanges) → Comes limit tables s c f rest
    → Ok call ≡ judged_front limit tables (known_in c.progress.known) rest f → is_size limit f.size ≡ true
    → Goes tables c n f call e → StatusIs tables s (c.count + 1) n.status → IsJudged tables s n
judged_so limit tables s c n f rest call e h is good g status =
    let m = next_is limit tables s c f rest (Ok call) h is in
    let k : n.count ≡ c.count + 1 = g.count in
    let at : IsAt tables s (c.count + 1) n.progress =
    at_next tables s c.count f call e c.progress n.progress g.changes_are h.stands m
    (message_within limit tables s c f rest h good) g.known g.to_server g.to_client g.few_to_server
    g.few_to_client h.judged.at in
    let below = slice_get_within s.frames c.count f h.stands in
    let small = small_step c n f f.direction (length (s.streams f.direction)) refl g.to_server g.to_client
    (message_within limit tables s c f rest h good) h.small h.judged.small_to_server h.judged.small_to_client
    in
    let few = few_step c n f f.direction refl g.to_server g.to_client h.here
    (size_least limit f.size good) h.judged.few in
    record {
      at = subst (λ (j : ℕ). IsAt tables s j n.progress) (sym k) at;
      status = subst (λ (j : ℕ). StatusIs tables s j n.status) (sym k) status;
      undeserved = subst (λ (j : ℕ). TellsUndeserved tables s j n.undeserved) (sym k)
          (undeserved_next tables s c.count call e (known_in c.progress.known) c.undeserved n.undeserved m
          g.changes_are h.judged.at.known_is g.undeserved h.judged.undeserved);
      within = omega (arith, k, below);
      few = omega (arith, k, few);
      small_to_server = small.0;
      small_to_client = small.1;
    }

status_open : (status : SessionStatus) → is_going status ≡ true → (tables : List Interface) (s : Session) (k : ℕ)
    → ArePassed (messages tables s) k → StatusIs tables s k status
status_open Open e tables s k h = h
status_open Ended e tables s k h = absurd (cc e)
status_open (Broken frame fault) e tables s k h = absurd (cc e)

pub judged_on : {A : Type 0} (limit : ℕ) (tables : List Interface) (s : Session) (c n : SessionState A)
    (f : FramedMessage) (rest : List ℕ) (call : Call) (e : MessageChanges) → Comes limit tables s c f rest
    → Ok call ≡ judged_front limit tables (known_in c.progress.known) rest f → is_size limit f.size ≡ true
    → Goes tables c n f call e → e.is_error ≡ false → n.status ≡ c.status → IsJudged tables s n
judged_on limit tables s c n f rest call e h is good g on status =
    let m = next_is limit tables s c f rest (Ok call) h is in
    let passed = passed_next (messages tables s) c.count call
    (open_passed tables s c.count c.status h.going h.judged.status) m
    (ends_is tables call e false g.changes_are on) in
    judged_so limit tables s c n f rest call e h is good g
    (subst (λ (x : SessionStatus). StatusIs tables s (c.count + 1) x) (sym status)
    (status_open c.status h.going tables s (c.count + 1) passed))

pub judged_end : {A : Type 0} (limit : ℕ) (tables : List Interface) (s : Session) (c n : SessionState A)
    (f : FramedMessage) (rest : List ℕ) (call : Call) (e : MessageChanges) → Comes limit tables s c f rest
    → Ok call ≡ judged_front limit tables (known_in c.progress.known) rest f → is_size limit f.size ≡ true
    → Goes tables c n f call e → e.is_error ≡ true → n.status ≡ Ended → IsJudged tables s n
judged_end limit tables s c n f rest call e h is good g ends status =
    let m = next_is limit tables s c f rest (Ok call) h is in
    let last : IsEnd (messages tables s) (c.count + 1) = record {
      before = c.count;
      last = refl;
      call = call;
      is = m;
      ends = ends_is tables call e true g.changes_are ends;
      passed = open_passed tables s c.count c.status h.going h.judged.status;
    } in
    judged_so limit tables s c n f rest call e h is good g
    (subst (λ (x : SessionStatus). StatusIs tables s (c.count + 1) x) (sym status) last)

-- ---- the messages that are cut from bytes

get_at_drop : {X : Type 0} (xs ys : List X) (k : ℕ) (x : X) → drop k xs ≡ x ∷ ys → slice_get xs k ≡ Some x
get_at_drop [] ys zero x e = absurd (cc e)
get_at_drop [] ys (suc k) x e = absurd (cc e)
get_at_drop (y ∷ xs) ys zero x e = let same : y ≡ x = cc in ap (λ (z : _). Some z) same
get_at_drop (y ∷ xs) ys (suc k) x e = get_at_drop xs ys k x e

drop_one_more : {X : Type 0} (xs ys : List X) (k : ℕ) (x : X) → drop k xs ≡ x ∷ ys → drop (k + 1) xs ≡ ys
drop_one_more xs ys k x e = sym (drop-drop 1 k xs) ∙ ap (λ (l : List _). drop 1 l) e

-- The size at the front of the bytes, which begin at the next message.
pub record InFront (limit : ℕ) (w rest : List ℕ) (p z : ℕ) : Type 0 where
  pub header : 8 ≤ length rest
  pub whole : is_size limit z ≡ true → z ≤ length rest
  pub others : List Span
  pub spans : (cutting limit (length w) w p).spans ≡ span p z ∷ others
  pub good : is_size limit z ≡ true → cutting limit (length w) w p
      ≡ span_then_cut (span p z) (cutting limit (length w) w (p + z))

in_front_as : (limit : ℕ) (w rest : List ℕ) (p z : ℕ) (x : Front) → front limit (drop p w) ≡ x → p ≤ length w
    → drop p w ≡ rest → Some z ≡ size_of x → InFront limit w rest p z
in_front_as limit w rest p z More e within is some = absurd (cc some)
in_front_as limit w rest p z (Bad y) e within is some =
    let same : z ≡ y = cc in
    let b = front_spoiled limit (drop p w) y e in
    let l = ap (λ (l : List ℕ). length l) is in
    let none : is_size limit z ≡ false = ap (is_size limit) same ∙ b.none in
    let c : cutting limit (length w) w p ≡ cut_bad_at p y =
    step limit (length w) w p within (omega arith)
    ∙ ap (λ (f : Front). cut_by_front p f (cutting limit (length w) w)) e in
    record {
      header = (let h = b.header in omega (arith, h, l));
      whole = λ good. absurd (cc (none, good));
      others = [];
      spans = ap (λ (x : Cutting). x.spans) c ∙ ap (λ (n : ℕ). span p n ∷ []) (sym same);
      good = λ good. absurd (cc (none, good));
    }
in_front_as limit w rest p z (Whole y) e within is some =
    let same : z ≡ y = cc in
    let n = next_within limit w p y e within in
    let l = ap (λ (l : List ℕ). length l) is in
    let d = length-drop p w in
    let c : cutting limit (length w) w p ≡ span_then_cut (span p y) (cutting limit (length w) w (p + y)) =
    step limit (length w) w p within (omega arith)
    ∙ ap (λ (f : Front). cut_by_front p f (cutting limit (length w) w)) e in
    let c2 : cutting limit (length w) w p ≡ span_then_cut (span p z) (cutting limit (length w) w (p + z)) =
    c ∙ ap (λ (n : ℕ). span_then_cut (span p n) (cutting limit (length w) w (p + n))) (sym same) in
    let a = n.0 in
    let b = n.1 in
    record {
      header = omega (arith, a, b, l, d);
      whole = λ good. omega (arith, a, b, l, d, same);
      others = (cutting limit (length w) w (p + z)).spans;
      spans = ap (λ (x : Cutting). x.spans) c2;
      good = λ good. c2;
    }

pub in_front : {A : Type 0} (limit : ℕ) (tables : List Interface) (s : Session) (c : SessionState A)
    (d : Direction) (tokens z : ℕ) (rest : List ℕ) → CutFollows limit tables s c d tokens rest
    → Some z ≡ size_of (front limit rest) → InFront limit (s.streams d) rest (end_in c d) z
in_front limit tables s c d tokens z rest h some =
    in_front_as limit (s.streams d) rest (end_in c d) z (front limit (drop (end_in c d) (s.streams d))) refl
    (end_within tables s c.count c.progress d h.judged.at) h.rest_is
    (some ∙ ap (λ (b : List ℕ). size_of (front limit b)) (sym h.rest_is))

abbrev pub frame_of : Direction → ℕ → ℕ → ℕ → FramedMessage
frame_of d start z tokens = record { direction = d; start = start; size = z; tokens = tokens }

pub comes_next : {A : Type 0} (limit : ℕ) (tables : List Interface) (s : Session) (c : SessionState A)
    (d : Direction) (tokens z start : ℕ) (rest : List ℕ) → CutFollows limit tables s c d tokens rest
    → Some z ≡ size_of (front limit rest) → start ≡ end_in c d
    → Comes limit tables s c (frame_of d start z tokens) rest
comes_next limit tables s c d tokens z start rest h some here =
    let i = in_front limit tables s c d tokens z rest h some in
    let frames : drop c.count s.frames ≡ frame_of d (end_in c d) z tokens ∷ map (framed d tokens) i.others =
    h.frames ∙ ap (map (framed d tokens)) i.spans in
    record {
      limit_is = h.limit_is;
      going = h.going;
      judged = h.judged;
      stands = get_at_drop s.frames _ c.count (frame_of d (end_in c d) z tokens) frames
          ∙ ap (λ (n : ℕ). Some (frame_of d n z tokens)) (sym here);
      here = here;
      rest_is = ap (λ (n : ℕ). drop n (s.streams d)) here ∙ h.rest_is;
      small = h.small;
      header = i.header;
      whole = i.whole;
    }

pub follows_next : {A : Type 0} (limit : ℕ) (tables : List Interface) (s : Session) (c n : SessionState A)
    (d : Direction) (tokens z start : ℕ) (rest : List ℕ) → CutFollows limit tables s c d tokens rest
    → Some z ≡ size_of (front limit rest) → start ≡ end_in c d → WentOn limit (frame_of d start z tokens) c n
    → IsJudged tables s n → is_going n.status ≡ true → CutFollows limit tables s n d tokens (drop z rest)
follows_next limit tables s c n d tokens z start rest h some here went judged going =
    let i = in_front limit tables s c d tokens z rest h some in
    let w = s.streams d in
    let p = end_in c d in
    let is = i.good went.size in
    let next : cutting limit (length w) w (end_in n d) ≡ cutting limit (length w) w (p + z) =
    ap (cutting limit (length w) w) (went.end ∙ ap (λ (m : ℕ). m + z) here) in
    let frames : drop c.count s.frames ≡ frame_of d p z tokens
    ∷ map (framed d tokens) (cutting limit (length w) w (p + z)).spans =
    h.frames ∙ ap (λ (x : Cutting). map (framed d tokens) x.spans) is in
    record {
      limit_is = h.limit_is;
      going = going;
      judged = judged;
      rest_is = ap (λ (m : ℕ). drop m w) (went.end ∙ ap (λ (m : ℕ). m + z) here) ∙ sym (drop-drop z p w)
          ∙ ap (drop z) h.rest_is;
      small = h.small;
      frames = ap (λ (m : ℕ). drop m s.frames) went.count
          ∙ drop_one_more s.frames _ c.count (frame_of d p z tokens) frames
          ∙ ap (λ (x : Cutting). map (framed d tokens) x.spans) (sym next);
      place = ap (λ (x : Cutting). x.place) (next) ∙ sym (ap (λ (x : Cutting). x.place) is) ∙ h.place;
      has_bad_size = ap (λ (x : Cutting). x.has_bad_size) (next) ∙ sym (ap (λ (x : Cutting). x.has_bad_size) is) ∙ h.has_bad_size;
    }

nothing_left : {X : Type 0} (xs : List X) (k : ℕ) → drop k xs ≡ [] → length xs ≤ k
nothing_left xs k e = let l = length-drop k xs in let n = ap (λ (l : List _). length l) e in omega (arith, l, n)

stops_as : (limit : ℕ) (w : List ℕ) (p : ℕ) (x : Front) → front limit (drop p w) ≡ x → p ≤ length w → None ≡ size_of x
    → cutting limit (length w) w p ≡ cut_stopped_at p
stops_as limit w p More e within none = step limit (length w) w p within (omega arith)
    ∙ ap (λ (f : Front). cut_by_front p f (cutting limit (length w) w)) e
stops_as limit w p (Bad y) e within none = absurd (cc none)
stops_as limit w p (Whole y) e within none = absurd (cc none)

pub all_judged : {A : Type 0} (limit : ℕ) (tables : List Interface) (s : Session) (c : SessionState A)
    (d : Direction) (tokens : ℕ) (rest : List ℕ) → CutFollows limit tables s c d tokens rest
    → None ≡ size_of (front limit rest) → AllJudged limit tables s c d rest
all_judged limit tables s c d tokens rest h none =
    let w = s.streams d in
    let p = end_in c d in
    let is : cutting limit (length w) w p ≡ cut_stopped_at p =
    stops_as limit w p (front limit (drop p w)) refl (end_within tables s c.count c.progress d h.judged.at)
    (none ∙ ap (λ (b : List ℕ). size_of (front limit b)) (sym h.rest_is)) in
    let done : length s.frames ≤ c.count = nothing_left s.frames c.count
    (h.frames ∙ ap (λ (x : Cutting). map (framed d tokens) x.spans) is) in
    let within = h.judged.within in
    record {
      judged = h.judged;
      all = λ going. omega (arith, done, within);
      left = λ going. record {
        rest_is = h.rest_is;
        place = sym (ap (λ (x : Cutting). x.place) is) ∙ h.place;
        has_bad_size = sym h.has_bad_size ∙ ap (λ (x : Cutting). x.has_bad_size) is;
      };
    }

-- after a message that ended the session or broke a rule
pub closed : {A : Type 0} (limit : ℕ) (tables : List Interface) (s : Session) (c : SessionState A)
    (d : Direction) (rest : List ℕ) → IsJudged tables s c → is_going c.status ≡ false
    → AllJudged limit tables s c d rest
closed limit tables s c d rest judged stopped_is =
    record {
      judged = judged;
      all = λ going. absurd (cc (going, stopped_is));
      left = λ going. absurd (cc (going, stopped_is));
    }

-- the rest of the bytes, as the code borrows it
pub rest_is : (s : List ℕ) (p : ℕ) → p ≤ length s → take (length s - p) (drop p s) ≡ drop p s
rest_is s p within = take_all (length s - p) (drop p s) (omega (arith, length-drop p s))
