-- A session judged piece by piece.
use Rattle.std.proofs.Common.{◌≡◌, ℕ, zero, suc, ◌+◌, ◌^◌, ◌<◌, ◌≤◌, Bool, true, false, cond, Some}
use Rattle.std.proofs.Common.{List, [], ◌-◌, ◌∷◌, ◌++◌, slice_get, length, take, drop, map, refl}
use Rattle.std.proofs.Common.{sym, ap, ◌∙◌, arith, subst, append-nil, length-append}
use Rattle.std.specs.Prelude.{OnOk, Option, None}
use Rattle.std.specs.declared.result.Result.{Result}
use Rattle.std.specs.declared.result.Result.TheVariants.{Ok, Err}
use Rattle.std.proofs.lemmas.List.{drop-append-le, take-append-le, take_all}
use Rattle.std.proofs.lemmas.Option.{slice_get_within}
use Rattle.wl_sigs.specs.Tables.{Interface}
use Rattle.wl_recording.specs.declared.piece.Direction.{Direction}
use Rattle.wl_recording.specs.declared.piece.Direction.TheVariants.{ToServer, ToClient}
use Rattle.wl_recording.specs.Piece.{Piece}
use Rattle.wl_check.specs.declared.session_state.SessionState.{SessionState}
use Rattle.wl_check.specs.declared.session_state.SessionStatus.{SessionStatus}
use Rattle.wl_check.specs.declared.session_state.SessionStatus.TheVariants.{Open, Ended, Broken}
use Rattle.wl_check.specs.declared.frames.FramedMessage.{FramedMessage}
use Rattle.wl_check.specs.declared.frames.Stream.{Stream}
use Rattle.wl_check.specs.declared.progress.Progress.{Progress}
use Rattle.wl_check.specs.declared.progress.Tally.{Tally}
use Rattle.wl_check.specs.declared.scanning.Scanner.{Scanner}
use Rattle.wl_check.specs.declared.verdict.Verdict.{Verdict}
use Rattle.wl_check.specs.declared.verdict.Verdict.TheVariants.{Lawful, Broken as BrokenAt}
use Rattle.wl_check.specs.SessionState.{IsTallied, IsAt, is_going, IsEnd, IsFault, StatusIs, end_in}
use Rattle.wl_check.specs.SessionState.{IsJudged, IsUnread, CutFollows, IsLeftOfStream, AllJudged, IsStream}
use Rattle.wl_check.specs.SessionState.{JudgedAlong, AfterPieces}
use Rattle.wl_check.specs.Session.{ArePassed}
use Rattle.wl_check.specs.declared.deserved.UndeservedDelete.{UndeservedDelete}
use Rattle.wl_check.specs.Deserved.{AllDeserved, TellsUndeserved, undeserved_at, undeserved_id}
use Rattle.wl_check.specs.Merged.{Cutting, cut, cutting, framed, same_direction, stream_of}
use Rattle.wl_check.specs.Merged.{piece_tokens, completed, merged, merged_within}
use Rattle.wl_check.specs.Places.{known}
use Rattle.wl_check.specs.Seen.{tally_in}
use Rattle.wl_check.specs.Session.{Session, Judged, count_in, changes_at, end_after, messages, session_of, IsVerdictOf}
use Rattle.wl_check.specs.Trace.{judged_line, lines_within}
use Rattle.wl_check.proofs.SessionByMessage.{end_within, open_passed}
use Rattle.wl_check.proofs.MessagesOfStream.{fed_good, new_spans}
use Rattle.wl_check.proofs.Examined.{answers_all, answers_end, answers_broken, at_first}
use Rattle.wl_check.proofs.LongerRecording.{merged_with, messages_more, stream_last, tokens_last}
use Rattle.wl_check.proofs.MergedPiece.{own, same_is}
use Rattle.wl_check.proofs.JudgedByPlaces.{after_front, changes_at_same, get_front, known_same, length_messages}

-- ---- a session that is continued keeps its first messages

-- The second session continues the first.
pub record Begins (tables : List Interface) (s t : Session) : Type 0 where
  pub more : List FramedMessage
  pub frames : t.frames ≡ s.frames ++ more
  pub later : List Judged
  pub judged : messages tables t ≡ messages tables s ++ later
  pub streams : (d : Direction) → length (s.streams d) ≤ length (t.streams d)

pub one_more : (limit : ℕ) (tables : List Interface) (ps : List Piece) (p : Piece)
    → Begins tables (session_of limit ps) (session_of limit (ps ++ p ∷ []))
one_more limit tables ps p =
    let rest = after_front limit tables (λ d. stream_of d (ps ++ p ∷ [])) (messages tables (session_of limit ps))
    (completed limit ps p) in
    record {
      more = completed limit ps p;
      frames = merged_with limit ps p;
      later = rest.0;
      judged = messages_more limit tables ps p ∙ rest.1;
      streams = λ d. (let l = ap (λ (b : List ℕ). length b) (stream_last d ps p)
          in let a = length-append (stream_of d ps) (own d p) in omega (arith, l, a));
    }

get_more : {X : Type 0} (all xs ys : List X) (k : ℕ) → all ≡ xs ++ ys → k < length xs → slice_get all k ≡ slice_get xs k
get_more {X = X} all xs ys k e h = ap (λ (l : List X). slice_get l k) e ∙ get_front xs ys k h

passed_more : (tables : List Interface) (s t : Session) (k : ℕ) → Begins tables s t → k ≤ length s.frames
    → ArePassed (messages tables s) k → ArePassed (messages tables t) k
passed_more tables s t k b h a j below =
    let p = a j below in
    let l = length_messages tables s in
    record {
      call = p.call;
      is = get_more (messages tables t) (messages tables s) b.later j b.judged
          (omega (arith, l, h, below)) ∙ p.is;
      goes_on = p.goes_on;
    }

tallied_more : (tables : List Interface) (s t : Session) (k : ℕ) (d : Direction) (x : Tally) → Begins tables s t
    → k ≤ length s.frames → IsTallied s k d x → IsTallied t k d x
tallied_more tables s t k d x b h i =
    let front : take k t.frames ≡ take k s.frames = ap (take k) b.frames ∙ take-append-le k s.frames b.more h in
    record {
      count_is = i.count_is ∙ ap (count_in d) (sym front);
      end_is = i.end_is ∙ ap (end_after d 0) (sym front);
      within = (let w = i.within in let l = b.streams d in omega (arith, w, l));
    }

known_more : (tables : List Interface) (s t : Session) (k : ℕ) → Begins tables s t → k ≤ length s.frames
    → known (changes_at tables (messages tables s)) (suc k) ≡ known (changes_at tables (messages tables t)) (suc k)
known_more tables s t k b h =
    let l = length_messages tables s in
    known_same (changes_at tables (messages tables s)) (changes_at tables (messages tables t)) (suc k)
    (λ q below. sym (ap (λ (m : List Judged). changes_at tables m q) b.judged
    ∙ changes_at_same tables (messages tables s) b.later q (omega (arith, l, h, below))))

at_more : {A : Type 0} (tables : List Interface) (s t : Session) (k : ℕ) (p : Progress A) → Begins tables s t
    → k ≤ length s.frames → IsAt tables s k p → IsAt tables t k p
at_more tables s t k p b h at = record {
  known_is = at.known_is ∙ known_more tables s t k b h;
  to_server = tallied_more tables s t k ToServer p.to_server b h at.to_server;
  to_client = tallied_more tables s t k ToClient p.to_client b h at.to_client;
  taken_to_server = at.taken_to_server;
  taken_to_client = at.taken_to_client;
}

pub lines_same : (tables : List Interface) (s t : Session) (k : ℕ) → Begins tables s t → k ≤ length s.frames
    → lines_within tables s k ≡ lines_within tables t k
unfolding lines_within
lines_same tables s t zero b h = refl
lines_same tables s t (suc k) b h =
    let l = length_messages tables s in
    let first = lines_same tables s t k b (omega (arith, h)) in
    let knows = known_more tables s t k b (omega (arith, h)) in
    let here = sym (get_more (messages tables t) (messages tables s) b.later k b.judged (omega (arith, l, h))) in
    λ i. first i ++ judged_line tables (knows i) (here i)

status_more : (tables : List Interface) (s t : Session) (k : ℕ) (status : SessionStatus) → Begins tables s t
    → k ≤ length s.frames → StatusIs tables s k status → StatusIs tables t k status
status_more tables s t k Open b h i = passed_more tables s t k b h i
status_more tables s t k Ended b h i =
    let l = length_messages tables s in
    let last = i.last in
    record {
      before = i.before;
      last = i.last;
      call = i.call;
      is = get_more (messages tables t) (messages tables s) b.later i.before b.judged (omega (arith, l, h, last))
          ∙ i.is;
      ends = i.ends;
      passed = passed_more tables s t i.before b (omega (arith, h, last)) i.passed;
    }
status_more tables s t k (Broken frame fault) b h i =
    let l = length_messages tables s in
    let below = slice_get_within s.frames k frame i.stands in
    record {
      stands = get_more t.frames s.frames b.more k b.frames below ∙ i.stands;
      is = get_more (messages tables t) (messages tables s) b.later k b.judged (omega (arith, l, below)) ∙ i.is;
      passed = passed_more tables s t k b h i.passed;
    }

-- ---- delete_ids that are not deserved

undeserved_same : (tables : List Interface) (s t : Session) (k : ℕ) → Begins tables s t → k < length s.frames
    → undeserved_at tables s k ≡ undeserved_at tables t k
undeserved_same tables s t k b h =
    let l = length_messages tables s in
    let knows = known_more tables s t k b (omega (arith, h)) in
    let does : changes_at tables (messages tables t) (suc k) ≡ changes_at tables (messages tables s) (suc k) =
    ap (λ (m : List Judged). changes_at tables m (suc k)) b.judged
    ∙ changes_at_same tables (messages tables s) b.later (suc k) (omega (arith, l, h)) in
    λ i. undeserved_id tables (knows i) (sym does i)

deserved_more : (tables : List Interface) (s t : Session) (k : ℕ) → Begins tables s t → k ≤ length s.frames
    → AllDeserved tables s k → AllDeserved tables t k
deserved_more tables s t k b h a j below =
    sym (undeserved_same tables s t j b (omega (arith, h, below))) ∙ a j below

undeserved_more : (tables : List Interface) (s t : Session) (k : ℕ) (u : Option UndeservedDelete)
    → Begins tables s t → k ≤ length s.frames → TellsUndeserved tables s k u → TellsUndeserved tables t k u
undeserved_more tables s t k None b h a = deserved_more tables s t k b h a
undeserved_more tables s t k (Some u) b h a =
    let below = a.below in
    record {
      place = a.place;
      below = a.below;
      number_is = a.number_is;
      takes_back = sym (undeserved_same tables s t a.place b (omega (arith, h, below))) ∙ a.takes_back;
      first = deserved_more tables s t a.place b (omega (arith, h, below)) a.first;
    }

judged_more : {A : Type 0} (tables : List Interface) (s t : Session) (c : SessionState A)
    → Begins tables s t → IsJudged tables s c → IsJudged tables t c
judged_more tables s t c b j = record {
  at = at_more tables s t c.count c.progress b j.within j.at;
  status = status_more tables s t c.count c.status b j.within j.status;
  undeserved = undeserved_more tables s t c.count c.undeserved b j.within j.undeserved;
  within = (let w = j.within in let l = ap (λ (f : List FramedMessage). length f) b.frames
      in let a = length-append s.frames b.more in omega (arith, w, l, a));
  few = j.few;
  small_to_server = j.small_to_server;
  small_to_client = j.small_to_client;
}

-- ---- one more piece

front : {X : Type 0} (xs ys : List X) → drop (length xs) (xs ++ ys) ≡ ys
front [] ys = refl
front (x ∷ xs) ys = front xs ys

drop_front : {X : Type 0} (xs ys : List X) (k : ℕ) → length xs ≡ k → drop k (xs ++ ys) ≡ ys
drop_front xs ys k e = subst (λ (n : ℕ). drop n (xs ++ ys) ≡ ys) e (front xs ys)

own_stream : (ps : List Piece) (p : Piece) → stream_of p.direction (ps ++ p ∷ []) ≡ stream_of p.direction ps ++ p.bytes
own_stream ps p = stream_last p.direction ps p ∙ ap (λ (b : Bool). stream_of p.direction ps ++ cond b p.bytes [])
    (same_is p.direction)

own_tokens_of : (ps : List Piece) (p : Piece) → piece_tokens p.direction (ps ++ p ∷ [])
    ≡ piece_tokens p.direction ps + p.tokens
own_tokens_of ps p = tokens_last p.direction ps p
    ∙ ap (λ (b : Bool). piece_tokens p.direction ps + cond b p.tokens 0) (same_is p.direction)

-- the messages that the piece completes are the next to be judged
pub follows_piece : {A : Type 0} (limit : ℕ) (tables : List Interface) (ps : List Piece) (p : Piece)
    (c : SessionState A) (stream : Stream A) (len tokens : ℕ) (bytes : List ℕ)
    → JudgedAlong limit tables p.direction ps c stream → is_going c.status ≡ true → len ≡ stream.len + length p.bytes
    → len < 2 ^ 64 → tokens ≡ stream.tokens + p.tokens → bytes ≡ stream.bytes ++ p.bytes
    → CutFollows limit tables (session_of limit (ps ++ p ∷ [])) c p.direction tokens bytes
follows_piece limit tables ps p c stream len tokens bytes h going len_is small tokens_is bytes_is =
    let d = p.direction in
    let s = stream_of d ps in
    let w = stream_of d (ps ++ p ∷ []) in
    let left = h.stream.left going in
    let end = end_in c d in
    let within = end_within tables (session_of limit ps) c.count c.progress d h.judged.at in
    let whole : w ≡ s ++ p.bytes = own_stream ps p in
    let l = ap (λ (b : List ℕ). length b) whole in
    let a = length-append s p.bytes in
    let len_old = h.stream.len in
    let good = fed_good limit s p.bytes left.has_bad_size in
    let all : cut limit w ≡ _ = ap (cut limit) whole ∙ good in
    let place_is : cutting limit (length w) w end
    ≡ cutting limit (length (s ++ p.bytes)) (s ++ p.bytes) (cut limit s).place =
    (λ i. cutting limit (length (whole i)) (whole i) (left.place i)) in
    let spans : drop (length (cut limit s).spans) (cut limit (s ++ p.bytes)).spans
    ≡ (cutting limit (length w) w end).spans =
    new_spans limit s p.bytes ∙ ap (λ (b : Bool). cond b []
    (cutting limit (length (s ++ p.bytes)) (s ++ p.bytes) (cut limit s).place).spans) left.has_bad_size
    ∙ sym (ap (λ (x : Cutting). x.spans) place_is) in
    let count : piece_tokens d ps + p.tokens ≡ tokens =
    ap (λ (n : ℕ). n + p.tokens) (sym h.stream.tokens) ∙ sym tokens_is in
    record {
      limit_is = refl;
      going = going;
      judged = judged_more tables (session_of limit ps) (session_of limit (ps ++ p ∷ [])) c
          (one_more limit tables ps p) h.judged;
      rest_is = ap (drop end) whole ∙ drop-append-le end s p.bytes within
          ∙ ap (λ (b : List ℕ). b ++ p.bytes) left.rest_is ∙ sym bytes_is;
      small = omega (arith, l, a, len_old, len_is, small);
      frames = ap (drop c.count) (merged_with limit ps p)
          ∙ drop_front (merged limit ps) (completed limit ps p) c.count (h.all going)
          ∙ (λ i. map (framed d (count i)) (spans i));
      place = ap (λ (x : Cutting). x.place) place_is ∙ sym (ap (λ (x : Cutting). x.place) all);
      has_bad_size = ap (λ (x : Cutting). x.has_bad_size) place_is ∙ sym (ap (λ (x : Cutting). x.has_bad_size) all);
    }

-- the piece was judged
pub along_piece : {A : Type 0} (limit : ℕ) (tables : List Interface) (ps : List Piece) (p : Piece)
    (c n : SessionState A) (stream after : Stream A) (rest : List ℕ)
    → JudgedAlong limit tables p.direction ps c stream
    → AllJudged limit tables (session_of limit (ps ++ p ∷ [])) n p.direction rest
    → after.len ≡ stream.len + length p.bytes → after.tokens ≡ stream.tokens + p.tokens
    → after.bytes ≡ rest → JudgedAlong limit tables p.direction (ps ++ p ∷ []) n after
along_piece limit tables ps p c n stream after rest h j len tokens bytes =
    let l = ap (λ (b : List ℕ). length b) (own_stream ps p) in
    let a = length-append (stream_of p.direction ps) p.bytes in
    let len_old = h.stream.len in
    record {
      judged = j.judged;
      all = j.all;
      stream = record {
        len = omega (arith, l, a, len_old, len);
        tokens = tokens ∙ ap (λ (m : ℕ). m + p.tokens) h.stream.tokens ∙ sym (own_tokens_of ps p);
        left = λ going. (let x = j.left going in record {
          rest_is = x.rest_is ∙ sym bytes;
          place = x.place;
          has_bad_size = x.has_bad_size;
        });
      };
    }

-- the session had ended before the piece
pub along_closed : {A : Type 0} (limit : ℕ) (tables : List Interface) (ps : List Piece) (p : Piece)
    (c : SessionState A) (stream after : Stream A)
    → JudgedAlong limit tables p.direction ps c stream → is_going c.status ≡ false
    → after.len ≡ stream.len + length p.bytes
    → after.tokens ≡ stream.tokens + p.tokens
    → JudgedAlong limit tables p.direction (ps ++ p ∷ []) c after
along_closed limit tables ps p c stream after h away len tokens =
    let l = ap (λ (b : List ℕ). length b) (own_stream ps p) in
    let a = length-append (stream_of p.direction ps) p.bytes in
    let len_old = h.stream.len in
    record {
      judged = judged_more tables (session_of limit ps) (session_of limit (ps ++ p ∷ [])) c
          (one_more limit tables ps p) h.judged;
      all = λ going. absurd (cc (going, away));
      stream = record {
        len = omega (arith, l, a, len_old, len);
        tokens = tokens ∙ ap (λ (m : ℕ). m + p.tokens) h.stream.tokens ∙ sym (own_tokens_of ps p);
        left = λ going. absurd (cc (going, away));
      };
    }

-- the other direction
other_stream : {A : Type 0} (limit : ℕ) (d : Direction) (ps : List Piece) (p : Piece) (c n : SessionState A)
    (stream : Stream A) → same_direction p.direction d ≡ false → IsStream limit d ps c stream
    → (is_going n.status ≡ true → is_going c.status ≡ true) → end_in n d ≡ end_in c d
    → IsStream limit d (ps ++ p ∷ []) n stream
other_stream limit d ps p c n stream away h going end =
    let same : stream_of d (ps ++ p ∷ []) ≡ stream_of d ps =
    stream_last d ps p ∙ ap (λ (b : Bool). stream_of d ps ++ cond b p.bytes []) away
    ∙ append-nil (stream_of d ps) in
    let count : piece_tokens d (ps ++ p ∷ []) ≡ piece_tokens d ps =
    tokens_last d ps p ∙ ap (λ (b : Bool). piece_tokens d ps + cond b p.tokens 0) away ∙ omega arith in
    record {
      len = h.len ∙ sym (ap (λ (b : List ℕ). length b) same);
      tokens = h.tokens ∙ sym count;
      left = λ is. (let x = h.left (going is) in record {
        rest_is = (λ i. drop (end i) (same i)) ∙ x.rest_is;
        place = end ∙ x.place ∙ sym (ap (λ (b : List ℕ). (cut limit b).place) same);
        has_bad_size = ap (λ (b : List ℕ). (cut limit b).has_bad_size) same ∙ x.has_bad_size;
      });
    }

pub after_server : {A : Type 0} (limit : ℕ) (tables : List Interface) (ps : List Piece) (p : Piece)
    (s : Scanner A) (n : SessionState A) (after : Stream A) → p.direction ≡ ToServer → AfterPieces limit tables ps s
    → (JudgedAlong limit tables p.direction ps s.state s.to_server
    → JudgedAlong limit tables p.direction (ps ++ p ∷ []) n after)
    → (is_going n.status ≡ true → is_going s.state.status ≡ true)
    → ((d : Direction) → same_direction p.direction d ≡ false → end_in n d ≡ end_in s.state d)
    → AfterPieces limit tables (ps ++ p ∷ []) (record { state = n; to_server = after; to_client = s.to_client })
after_server limit tables ps p s n after is h step going other =
    let own : JudgedAlong limit tables p.direction ps s.state s.to_server =
    record {
      judged = h.judged;
      all = h.all;
      stream = subst (λ (d : Direction). IsStream limit d ps s.state s.to_server) (sym is) h.to_server;
    } in
    let a = step own in
    let away : same_direction p.direction ToClient ≡ false = rw is refl in
    record {
      judged = a.judged;
      all = a.all;
      to_server = subst (λ (d : Direction). IsStream limit d (ps ++ p ∷ []) n after) is a.stream;
      to_client = other_stream limit ToClient ps p s.state n s.to_client away h.to_client going (other ToClient away);
    }

pub after_client : {A : Type 0} (limit : ℕ) (tables : List Interface) (ps : List Piece) (p : Piece)
    (s : Scanner A) (n : SessionState A) (after : Stream A) → p.direction ≡ ToClient → AfterPieces limit tables ps s
    → (JudgedAlong limit tables p.direction ps s.state s.to_client
    → JudgedAlong limit tables p.direction (ps ++ p ∷ []) n after)
    → (is_going n.status ≡ true → is_going s.state.status ≡ true)
    → ((d : Direction) → same_direction p.direction d ≡ false → end_in n d ≡ end_in s.state d)
    → AfterPieces limit tables (ps ++ p ∷ []) (record { state = n; to_server = s.to_server; to_client = after })
after_client limit tables ps p s n after is h step going other =
    let own : JudgedAlong limit tables p.direction ps s.state s.to_client =
    record {
      judged = h.judged;
      all = h.all;
      stream = subst (λ (d : Direction). IsStream limit d ps s.state s.to_client) (sym is) h.to_client;
    } in
    let a = step own in
    let away : same_direction p.direction ToServer ≡ false = rw is refl in
    record {
      judged = a.judged;
      all = a.all;
      to_server = other_stream limit ToServer ps p s.state n s.to_server away h.to_server going (other ToServer away);
      to_client = subst (λ (d : Direction). IsStream limit d (ps ++ p ∷ []) n after) is a.stream;
    }

pub along_server : {A : Type 0} (limit : ℕ) (tables : List Interface) (ps : List Piece) (d : Direction)
    (s : Scanner A) → d ≡ ToServer → AfterPieces limit tables ps s
    → JudgedAlong limit tables d ps s.state s.to_server
along_server limit tables ps d s is h = record {
  judged = h.judged;
  all = h.all;
  stream = subst (λ (x : Direction). IsStream limit x ps s.state s.to_server) (sym is) h.to_server;
}

pub along_client : {A : Type 0} (limit : ℕ) (tables : List Interface) (ps : List Piece) (d : Direction)
    (s : Scanner A) → d ≡ ToClient → AfterPieces limit tables ps s
    → JudgedAlong limit tables d ps s.state s.to_client
along_client limit tables ps d s is h = record {
  judged = h.judged;
  all = h.all;
  stream = subst (λ (x : Direction). IsStream limit x ps s.state s.to_client) (sym is) h.to_client;
}

-- ---- before the first piece

left_none : (limit : ℕ) (d : Direction) → IsLeftOfStream limit [] 0 []
unfolding cutting
left_none limit d = record { rest_is = refl; place = refl; has_bad_size = refl }

pub none_judged : {A : Type 0} (limit : ℕ) (tables : List Interface) (s : Scanner A) → IsUnread s.state
    → s.to_server.bytes ≡ [] → s.to_server.len ≡ 0 → s.to_server.tokens ≡ 0
    → s.to_client.bytes ≡ [] → s.to_client.len ≡ 0 → s.to_client.tokens ≡ 0 → AfterPieces limit tables [] s
unfolding merged_within
none_judged limit tables s f bytes len tokens bytes2 len2 tokens2 =
    let t = session_of limit [] in
    let c = s.state in
    let a : (tally_in c.progress ToServer).end ≡ 0 = ap (λ (x : Tally). x.end) f.to_server in
    let b : (tally_in c.progress ToClient).end ≡ 0 = ap (λ (x : Tally). x.end) f.to_client in
    let n = f.count in
    record {
      judged = record {
        at = subst (λ (k : ℕ). IsAt tables t k c.progress) (sym n)
            (at_first tables t c.progress f.known f.to_server f.to_client f.taken_to_server f.taken_to_client);
        status = subst (λ (x : SessionStatus). StatusIs tables t c.count x) (sym f.status)
            (λ j below. absurd (omega (arith, below, n)));
        undeserved = subst (TellsUndeserved tables t c.count) (sym f.undeserved)
            (λ j below. absurd (omega (arith, below, n)));
        within = omega (arith, n);
        few = omega (arith, n);
        small_to_server = omega (arith, a);
        small_to_client = omega (arith, b);
      };
      all = λ going. sym n;
      to_server = record { len = len; tokens = tokens; left = λ going. (rw (a, bytes) (left_none limit ToServer)) };
      to_client = record { len = len2; tokens = tokens2; left = λ going. (rw (b, bytes2) (left_none limit ToClient)) };
    }

-- ---- the pieces of a list

pub take_more : {X : Type 0} (ps : List X) (k : ℕ) (p : X) → slice_get ps k ≡ Some p
    → take (suc k) ps ≡ take k ps ++ p ∷ []
take_more [] k p e = absurd (cc e)
take_more (x ∷ xs) zero p e = let same : x ≡ p = cc in ap (λ (y : _). y ∷ []) same
take_more (x ∷ xs) (suc k) p e = ap (λ (l : List _). x ∷ l) (take_more xs k p e)

length_mapped : {X Y : Type 0} (f : X → Y) (xs : List X) → length (map f xs) ≡ length xs
length_mapped f [] = refl
length_mapped f (x ∷ xs) = ap suc (length_mapped f xs)

pub take_mapped : {X Y : Type 0} (f : X → Y) (xs : List X) (k : ℕ) → length xs ≤ k → take k (map f xs) ≡ map f xs
take_mapped f xs k h = take_all k (map f xs) (let l = length_mapped f xs in omega (arith, l, h))

-- ---- after the last piece

abbrev pub verdict_of : {A : Type 0} → SessionStatus → Scanner A → Verdict
verdict_of Open s = Lawful s.state.progress.to_server.count s.state.progress.to_client.count
    (s.to_server.len - s.state.progress.to_server.end) (s.to_client.len - s.state.progress.to_client.end)
verdict_of Ended s = Lawful s.state.progress.to_server.count s.state.progress.to_client.count
    (s.to_server.len - s.state.progress.to_server.end) (s.to_client.len - s.state.progress.to_client.end)
verdict_of (Broken f fault) s = BrokenAt f.direction ((tally_in s.state.progress f.direction).count + 1) f.start fault

lens_are : {A : Type 0} (limit : ℕ) (tables : List Interface) (ps : List Piece) (s : Scanner A)
    → AfterPieces limit tables ps s
    → Lawful s.state.progress.to_server.count s.state.progress.to_client.count
    (s.to_server.len - s.state.progress.to_server.end) (s.to_client.len - s.state.progress.to_client.end)
    ≡ Lawful s.state.progress.to_server.count s.state.progress.to_client.count
    (length (stream_of ToServer ps) - s.state.progress.to_server.end)
    (length (stream_of ToClient ps) - s.state.progress.to_client.end)
lens_are limit tables ps s h =
    let a = h.to_server.len in
    let b = h.to_client.len in
    λ i. Lawful s.state.progress.to_server.count s.state.progress.to_client.count (a i - s.state.progress.to_server.end)
    (b i - s.state.progress.to_client.end)

answers_as : {A : Type 0} (limit : ℕ) (tables : List Interface) (ps : List Piece) (s : Scanner A)
    (status : SessionStatus) → s.state.status ≡ status → AfterPieces limit tables ps s
    → IsVerdictOf tables (session_of limit ps) (verdict_of status s)
answers_as limit tables ps s Open e h =
    let t = session_of limit ps in
    let going : is_going s.state.status ≡ true = ap is_going e in
    subst (IsVerdictOf tables t) (sym (lens_are limit tables ps s h))
    (answers_all tables t s.state.count s.state.progress (h.all going)
    (open_passed tables t s.state.count s.state.status going h.judged.status) h.judged.at)
answers_as limit tables ps s Ended e h =
    let t = session_of limit ps in
    let i : IsEnd (messages tables t) s.state.count =
    subst (λ (x : SessionStatus). StatusIs tables t s.state.count x) e h.judged.status in
    subst (IsVerdictOf tables t) (sym (lens_are limit tables ps s h))
    (answers_end tables t i.before i.call s.state.progress i.is i.ends i.passed
    (subst (λ (k : ℕ). IsAt tables t k s.state.progress) i.last h.judged.at))
answers_as limit tables ps s (Broken f fault) e h =
    let t = session_of limit ps in
    let i : IsFault tables t s.state.count f fault =
    subst (λ (x : SessionStatus). StatusIs tables t s.state.count x) e h.judged.status in
    answers_broken tables t s.state.count f fault s.state.progress i.stands i.is i.passed h.judged.at

pub answers_so : {A : Type 0} (limit : ℕ) (tables : List Interface) (ps : List Piece) (s : Scanner A)
    → AfterPieces limit tables ps s → IsVerdictOf tables (session_of limit ps) (verdict_of s.state.status s)
answers_so limit tables ps s h = answers_as limit tables ps s s.state.status refl h

-- the counted messages end within the bytes that came
pub ends_within : {A : Type 0} (limit : ℕ) (tables : List Interface) (ps : List Piece) (s : Scanner A)
    → AfterPieces limit tables ps s
    → (s.state.progress.to_server.end ≤ s.to_server.len) × (s.state.progress.to_client.end ≤ s.to_client.len)
ends_within limit tables ps s h =
    let a = h.judged.at.to_server.within in
    let b = h.judged.at.to_client.within in
    let c = h.to_server.len in
    let d = h.to_client.len in
    (omega (arith, a, c), omega (arith, b, d))

-- both directions at once, with the values that the code has
pub takes_server : {A E : Type 0} (limit : ℕ) (tables : List Interface) (p : Piece) (s : Scanner A)
    (n : SessionState A) (after : Stream A) (r : Result (Unit {0}) E) → p.direction ≡ ToServer
    → OnOk r ((ps : List Piece) → JudgedAlong limit tables p.direction ps s.state s.to_server
    → JudgedAlong limit tables p.direction (ps ++ p ∷ []) n after)
    → OnOk r (is_going n.status ≡ true → is_going s.state.status ≡ true)
    → OnOk r ((d : Direction) → same_direction p.direction d ≡ false → end_in n d ≡ end_in s.state d)
    → OnOk r ((ps : List Piece) → AfterPieces limit tables ps s
    → AfterPieces limit tables (ps ++ p ∷ []) (record { state = n; to_server = after; to_client = s.to_client }))
takes_server limit tables p s n after (Ok x) is a b d =
    λ ps h. after_server limit tables ps p s n after is h (a ps) b d
takes_server limit tables p s n after (Err e) is a b d = tt

pub takes_client : {A E : Type 0} (limit : ℕ) (tables : List Interface) (p : Piece) (s : Scanner A)
    (n : SessionState A) (after : Stream A) (r : Result (Unit {0}) E) → p.direction ≡ ToClient
    → OnOk r ((ps : List Piece) → JudgedAlong limit tables p.direction ps s.state s.to_client
    → JudgedAlong limit tables p.direction (ps ++ p ∷ []) n after)
    → OnOk r (is_going n.status ≡ true → is_going s.state.status ≡ true)
    → OnOk r ((d : Direction) → same_direction p.direction d ≡ false → end_in n d ≡ end_in s.state d)
    → OnOk r ((ps : List Piece) → AfterPieces limit tables ps s
    → AfterPieces limit tables (ps ++ p ∷ []) (record { state = n; to_server = s.to_server; to_client = after }))
takes_client limit tables p s n after (Ok x) is a b d =
    λ ps h. after_client limit tables ps p s n after is h (a ps) b d
takes_client limit tables p s n after (Err e) is a b d = tt
