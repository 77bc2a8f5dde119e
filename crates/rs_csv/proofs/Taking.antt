-- What became of raw records, by one more step.
use Rattle.std.proofs.Common.{◌≡◌, ◌∙◌, ℕ, ◌+◌, Bool, true, false, List, [], ◌++◌, Option, None, refl, sym, ap, subst, append_assoc, append-nil}
use Rattle.std.specs.Prelude.{IsSome, OnErr, OnOk, Result, Ok, Err}
use Rattle.std.specs.List.{concat}
use Rattle.std.specs.Io.KnownBytes.{Appends}
use Rattle.std.proofs.KnownBytes.{Appends-nil, Appends-trans}
use Rattle.std.proofs.lemmas.Bool.{false≢true}
use Rattle.rs_protocol.specs.Puts.{PutsBut}
use Rattle.rs_syntax.specs.Tree.{CommandTree}
use Rattle.rs_csv.specs.declared.progress.Progress.{Progress}
use Rattle.rs_csv.specs.declared.filter.Wanted.{Wanted}
use Rattle.rs_csv.specs.Cutting.{text_of}
use Rattle.rs_csv.specs.Reading.{ReadsAll, nothing_read, one_more_batch}
use Rattle.rs_csv.specs.Output.{AreTaken, IsMade, IsOutput, Known, known_of, Makes, TakesMore, WroteFront, WroteOf, held_lines}
use Rattle.rs_csv.specs.Routes.{DefineRoutes, HaveMet, IsMet, Placed}
use Rattle.rs_csv.proofs.Outputs.{KnowledgeGrows, Stays, grows_same, grows_told, known_told, made_known, made_long, output_known, output_none, output_plain, output_routed, stays_told}

-- lines after those that were sent, where none is held
after_sent : (sent held bytes : List ℕ) → held ≡ [] → (sent ++ held) ++ bytes ≡ sent ++ bytes
after_sent sent held bytes none = ap (λ h. (sent ++ h) ++ bytes) none ∙ ap (λ s. s ++ bytes) (append-nil sent)

only_sent : (sent held bytes : List ℕ) → held ≡ [] → bytes ≡ [] → (sent ++ held) ++ bytes ≡ sent
only_sent sent held bytes none_held none_waits = after_sent sent held bytes none_held ∙ ap (λ bs. sent ++ bs) none_waits ∙ append-nil sent

-- and where none was sent
only_held : (sent held bytes : List ℕ) → sent ≡ [] → bytes ≡ [] → (sent ++ held) ++ bytes ≡ held
only_held sent held bytes none_sent none_waits = ap (λ s. (s ++ held) ++ bytes) none_sent ∙ ap (λ bs. held ++ bs) none_waits ∙ append-nil held

-- what waited is held
then_held : (sent held now bytes waiting : List ℕ) → now ≡ held ++ bytes → waiting ≡ [] → (sent ++ now) ++ waiting ≡ (sent ++ held) ++ bytes
then_held sent held now bytes waiting is none = ap (λ bs. (sent ++ now) ++ bs) none ∙ append-nil (sent ++ now) ∙ ap (λ bs. sent ++ bs) is ∙ sym (append_assoc sent held bytes)

same_held : (old new : Progress) → new.held ≡ old.held → held_lines new ≡ held_lines old
same_held old new held = ap (λ h. concat h) held

module _ (wanted : Wanted) (table : CommandTree) where
  -- ---- a front of what is written

  -- nothing was written
  pub wrote_nothing : (raws : List (List ℕ)) (before after : Option (List ℕ)) → Appends before after [] → WroteFront wanted table raws before after
  wrote_nothing raws before after put = record {
    first = [];
    others = raws;
    whole = refl;
    records = [];
    read = nothing_read;
    sent = [];
    lost = [];
    put = put;
    texts = λ name. None;
    lines = output_none wanted table (record { told = true; texts = λ name. None });
  }

  -- what was written of some is a front of what is written of more
  pub front_more : (raws more : List (List ℕ)) (before after : Option (List ℕ)) → WroteFront wanted table raws before after → WroteFront wanted table (raws ++ more) before after
  front_more raws more before after front = record {
    first = front.first;
    others = front.others ++ more;
    whole = ap (λ rs. rs ++ more) front.whole ∙ append_assoc front.first front.others more;
    records = front.records;
    read = front.read;
    sent = front.sent;
    lost = front.lost;
    put = front.put;
    texts = front.texts;
    lines = front.lines;
  }

  front_by : (flag : Bool) → wanted.defines_routes ≡ flag → (progress : Progress) (raws : List (List ℕ)) (before after : Option (List ℕ)) → AreTaken wanted table before progress raws after → WroteFront wanted table raws before after
  front_by false off progress raws before after taken =
      let known = known_of progress.made in
      let all : (taken.sent ++ held_lines progress) ++ progress.made.bytes.items ≡ taken.sent ++ [] =
      only_sent taken.sent (held_lines progress) progress.made.bytes.items (taken.none_held off) taken.none_waits ∙ sym (append-nil taken.sent) in
      record {
        first = raws;
        others = [];
        whole = sym (append-nil raws);
        records = taken.records;
        read = taken.read;
        sent = taken.sent;
        lost = [];
        put = taken.put;
        texts = known.texts;
        lines =
            subst (IsOutput wanted table (known_told known) taken.records) all
            (output_plain wanted table (known_told known) progress.made.number progress.made.extents progress.planned taken.records _ off
            (made_known wanted table known (known_told known) progress.made.number progress.made.extents progress.planned taken.records _ (grows_told known) taken.made));
      }
  front_by true on progress raws before after taken = wrote_nothing raws before after (subst (Appends before after) (taken.none_sent on) taken.put)

  pub taken_front : (progress : Progress) (raws : List (List ℕ)) (before after : Option (List ℕ)) → AreTaken wanted table before progress raws after → WroteFront wanted table raws before after
  taken_front progress raws before after taken = front_by wanted.defines_routes refl progress raws before after taken

  -- ---- raw records that are taken

  pub taken_none : (progress : Progress) (output : Option (List ℕ)) → progress.planned ≡ None → progress.made.bytes.items ≡ [] → progress.made.number ≡ 0 → progress.held ≡ []
      → (wanted.defines_routes ≡ true → HaveMet progress.made.extents []) → AreTaken wanted table output progress [] output
  taken_none progress output none no_line no_number no_held none_met =
      let none_held : held_lines progress ≡ [] = ap (λ held. concat held) no_held in
      record {
        records = [];
        read = nothing_read;
        sent = [];
        put = Appends-nil output;
        made =
            subst (λ planned. IsMade wanted table (known_of progress.made) progress.made.number progress.made.extents planned [] (([] ++ held_lines progress) ++ progress.made.bytes.items)) (sym none)
            (refl, only_sent [] (held_lines progress) progress.made.bytes.items none_held no_line, no_number, none_met);
        none_waits = no_line;
        none_held = λ off. none_held;
        none_sent = λ on. refl;
      }

  -- what is made stays so
  made_still : (old new : Progress) (records : List (List (List ℕ))) (bytes now : List ℕ) → new.planned ≡ old.planned → known_of new.made ≡ known_of old.made → new.made.number ≡ old.made.number → new.made.extents ≡ old.made.extents → now ≡ bytes
      → IsMade wanted table (known_of old.made) old.made.number old.made.extents old.planned records bytes → IsMade wanted table (known_of new.made) new.made.number new.made.extents new.planned records now
  made_still old new records bytes now planned known number extents is made =
      subst (λ k. IsMade wanted table k new.made.number new.made.extents new.planned records now) (sym known)
      (subst (λ n. IsMade wanted table (known_of old.made) n new.made.extents new.planned records now) (sym number)
      (subst (λ e. IsMade wanted table (known_of old.made) old.made.number e new.planned records now) (sym extents)
      (subst (λ p. IsMade wanted table (known_of old.made) old.made.number old.made.extents p records now) (sym planned)
      (subst (IsMade wanted table (known_of old.made) old.made.number old.made.extents old.planned records) (sym is) made))))

  -- the lines of a batch are made, and are sent or held
  module _ (old mid new : Progress) (raws batch : List (List ℕ)) (more : List (List (List ℕ))) (before after : Option (List ℕ)) (reads : ReadsAll wanted.separator (text_of wanted.separator batch) more) (makes : Makes wanted table more old mid)
      (taken : AreTaken wanted table before old raws after) where
    sent_batch : (later : Option (List ℕ)) → wanted.defines_routes ≡ false → mid.held ≡ old.held → new.held ≡ mid.held → new.planned ≡ mid.planned → known_of new.made ≡ known_of mid.made → new.made.number ≡ mid.made.number → new.made.extents ≡ mid.made.extents
        → new.made.bytes.items ≡ [] → Appends after later mid.made.bytes.items → AreTaken wanted table before new (raws ++ batch) later
    sent_batch later off held held_now planned known number extents none puts =
        let none_mid : held_lines mid ≡ [] = same_held old mid held ∙ taken.none_held off in
        let none_now : held_lines new ≡ [] = same_held mid new held_now ∙ none_mid in
        let waiting = mid.made.bytes.items in
        record {
          records = taken.records ++ more;
          read = one_more_batch batch more taken.read reads;
          sent = taken.sent ++ waiting;
          put = Appends-trans before after later taken.sent waiting taken.put puts;
          made =
              made_still mid new (taken.records ++ more) _ _ planned known number extents
              (only_sent (taken.sent ++ waiting) (held_lines new) new.made.bytes.items none_now none ∙ sym (after_sent taken.sent (held_lines mid) waiting none_mid)) (makes taken.records taken.sent taken.made);
          none_waits = none;
          none_held = λ off. none_now;
          none_sent = λ on. absurd (false≢true (sym off ∙ on));
        }

    lost_batch : (later : Option (List ℕ)) (lost : List ℕ) → wanted.defines_routes ≡ false → mid.held ≡ old.held → PutsBut mid.made.bytes.items lost after later → WroteFront wanted table (raws ++ batch) before later
    lost_batch later lost off held puts =
        let known = known_of mid.made in
        let none_mid : held_lines mid ≡ [] = same_held old mid held ∙ taken.none_held off in
        record {
          first = raws ++ batch;
          others = [];
          whole = sym (append-nil (raws ++ batch));
          records = taken.records ++ more;
          read = one_more_batch batch more taken.read reads;
          sent = taken.sent ++ puts.front;
          lost = lost;
          put = Appends-trans before after later taken.sent puts.front taken.put puts.put;
          texts = known.texts;
          lines =
              subst (IsOutput wanted table (known_told known) (taken.records ++ more))
              (after_sent taken.sent (held_lines mid) mid.made.bytes.items none_mid ∙ ap (λ bs. taken.sent ++ bs) puts.whole ∙ sym (append_assoc taken.sent puts.front lost))
              (output_plain wanted table (known_told known) mid.made.number mid.made.extents mid.planned (taken.records ++ more) _ off
              (made_known wanted table known (known_told known) mid.made.number mid.made.extents mid.planned (taken.records ++ more) _ (grows_told known) (makes taken.records taken.sent taken.made)));
        }

    held_batch : wanted.defines_routes ≡ true → new.planned ≡ mid.planned → known_of new.made ≡ known_of mid.made → new.made.number ≡ mid.made.number → new.made.extents ≡ mid.made.extents
        → new.made.bytes.items ≡ [] → held_lines new ≡ held_lines mid ++ mid.made.bytes.items → AreTaken wanted table before new (raws ++ batch) after
    held_batch on planned known number extents none holds = record {
      records = taken.records ++ more;
      read = one_more_batch batch more taken.read reads;
      sent = taken.sent;
      put = taken.put;
      made =
          made_still mid new (taken.records ++ more) _ _ planned known number extents
          (then_held taken.sent (held_lines mid) (held_lines new) mid.made.bytes.items new.made.bytes.items holds none) (makes taken.records taken.sent taken.made);
      none_waits = none;
      none_held = λ off. absurd (false≢true (sym off ∙ on));
      none_sent = taken.none_sent;
    }

  pub takes_sending : {T E : Type 0} (result : Result T E) (old mid new : Progress) (text : List ℕ) (batch : List (List ℕ)) (more : List (List (List ℕ))) (after later : Option (List ℕ)) → wanted.defines_routes ≡ false → ReadsAll wanted.separator text more → text ≡ text_of wanted.separator batch
      → Makes wanted table more old mid → mid.held ≡ old.held → new.held ≡ mid.held → new.planned ≡ mid.planned → known_of new.made ≡ known_of mid.made → new.made.number ≡ mid.made.number → new.made.extents ≡ mid.made.extents
      → OnOk result ((new.made.bytes.items ≡ []) × Appends after later mid.made.bytes.items) → OnErr result ((lost : List ℕ) × PutsBut mid.made.bytes.items lost after later) → TakesMore wanted table result batch old new after later
  takes_sending (Ok _) old mid new text batch more after later off reads is makes held held_now planned known number extents ok err = λ before raws taken.
      sent_batch old mid new raws batch more before after (subst (λ t. ReadsAll wanted.separator t more) is reads) makes taken later off held held_now planned known number extents ok.0 ok.1
  takes_sending (Err _) old mid new text batch more after later off reads is makes held held_now planned known number extents ok err = λ before raws taken.
      lost_batch old mid new raws batch more before after (subst (λ t. ReadsAll wanted.separator t more) is reads) makes taken later err.0 off held err.1

  pub takes_holding : {T E : Type 0} (result : Result T E) (old mid new : Progress) (text : List ℕ) (batch : List (List ℕ)) (more : List (List (List ℕ))) (output : Option (List ℕ)) → wanted.defines_routes ≡ true → ReadsAll wanted.separator text more → text ≡ text_of wanted.separator batch
      → Makes wanted table more old mid → new.planned ≡ mid.planned → known_of new.made ≡ known_of mid.made → new.made.number ≡ mid.made.number → new.made.extents ≡ mid.made.extents
      → OnOk result ((new.made.bytes.items ≡ []) × (held_lines new ≡ held_lines mid ++ mid.made.bytes.items)) → TakesMore wanted table result batch old new output output
  takes_holding (Ok _) old mid new text batch more output on reads is makes planned known number extents ok = λ before raws taken.
      held_batch old mid new raws batch more before output (subst (λ t. ReadsAll wanted.separator t more) is reads) makes taken on planned known number extents ok.0 ok.1
  takes_holding (Err _) old mid new text batch more output on reads is makes planned known number extents ok = λ before raws taken. front_more raws batch before output (taken_front old raws before output taken)

  -- something was told, and nothing made
  pub taken_told : (old new : Progress) (raws : List (List ℕ)) (before after : Option (List ℕ)) → new.planned ≡ old.planned → new.made.bytes.items ≡ old.made.bytes.items → new.made.has_told ≡ true → new.made.number ≡ old.made.number + 1 → IsSome new.planned → new.made.texts ≡ old.made.texts
      → new.made.extents ≡ old.made.extents → new.held ≡ old.held → AreTaken wanted table before old raws after → AreTaken wanted table before new raws after
  taken_told old new raws before after planned bytes told number some texts extents held taken =
      let held_is : held_lines new ≡ held_lines old = same_held old new held in
      let all : List ℕ = (taken.sent ++ held_lines old) ++ old.made.bytes.items in
      let all_now : (taken.sent ++ held_lines new) ++ new.made.bytes.items ≡ all = ap (λ h. (taken.sent ++ h) ++ new.made.bytes.items) held_is ∙ ap (λ bs. (taken.sent ++ held_lines old) ++ bs) bytes in
      record {
        records = taken.records;
        read = taken.read;
        sent = taken.sent;
        put = taken.put;
        made =
            subst (λ n. IsMade wanted table (known_of new.made) n new.made.extents new.planned taken.records ((taken.sent ++ held_lines new) ++ new.made.bytes.items)) (sym number)
            (subst (λ e. IsMade wanted table (known_of new.made) (old.made.number + 1) e new.planned taken.records ((taken.sent ++ held_lines new) ++ new.made.bytes.items)) (sym extents)
            (subst (λ p. IsMade wanted table (known_of new.made) (old.made.number + 1) old.made.extents p taken.records ((taken.sent ++ held_lines new) ++ new.made.bytes.items)) (sym planned)
            (subst (IsMade wanted table (known_of new.made) (old.made.number + 1) old.made.extents old.planned taken.records) (sym all_now)
            (made_long wanted table (known_of new.made) old.made.number 1 old.made.extents old.planned taken.records all (subst IsSome planned some) told
            (made_known wanted table (known_of old.made) (known_of new.made) old.made.number old.made.extents old.planned taken.records all
            (grows_same old.made new.made (stays_told old.made.has_told new.made.has_told told) texts) taken.made)))));
        none_waits = bytes ∙ taken.none_waits;
        none_held = λ off. held_is ∙ taken.none_held off;
        none_sent = taken.none_sent;
      }

  -- ---- the end

  -- all was sent
  pub wrote_sent : (progress : Progress) (raws : List (List ℕ)) (before after : Option (List ℕ)) → wanted.defines_routes ≡ false → AreTaken wanted table before progress raws after → WroteOf wanted table progress.made.has_told raws before after
  wrote_sent progress raws before after off taken = record {
    records = taken.records;
    read = taken.read;
    sent = taken.sent;
    put = taken.put;
    texts = (known_of progress.made).texts;
    lines =
        subst (IsOutput wanted table (known_of progress.made) taken.records) (only_sent taken.sent (held_lines progress) progress.made.bytes.items (taken.none_held off) taken.none_waits)
        (output_plain wanted table (known_of progress.made) progress.made.number progress.made.extents progress.planned taken.records _ off taken.made);
  }

  -- something more was told
  pub wrote_told : (told now : Bool) (raws : List (List ℕ)) (before after : Option (List ℕ)) → Stays told now → WroteOf wanted table told raws before after → WroteOf wanted table now raws before after
  wrote_told told now raws before after stays wrote = record {
    records = wrote.records;
    read = wrote.read;
    sent = wrote.sent;
    put = wrote.put;
    texts = wrote.texts;
    lines =
        output_known wanted table (record { told = told; texts = wrote.texts }) (record { told = now; texts = wrote.texts }) wrote.records wrote.sent
        (record { told = stays; texts = λ name text is. is }) wrote.lines;
  }

  -- the lines that define the routes are sent, and then those that were held
  module _ (progress : Progress) (raws : List (List ℕ)) (routes : List ℕ) (before output : Option (List ℕ)) (on : wanted.defines_routes ≡ true)
      (define : (events : List Placed) → HaveMet progress.made.extents events → DefineRoutes wanted.session (IsMet events) routes) (taken : AreTaken wanted table before progress raws output) where
    all_lines : (known : Known) → KnowledgeGrows (known_of progress.made) known → IsOutput wanted table known taken.records (routes ++ held_lines progress)
    all_lines known grows =
        output_routed wanted table known progress.made.number progress.made.extents progress.planned taken.records routes (held_lines progress) on define
        (subst (IsMade wanted table known progress.made.number progress.made.extents progress.planned taken.records) (only_held taken.sent (held_lines progress) progress.made.bytes.items (taken.none_sent on) taken.none_waits)
        (made_known wanted table (known_of progress.made) known progress.made.number progress.made.extents progress.planned taken.records _ grows taken.made))

    none_put : Appends before output []
    none_put = subst (Appends before output) (taken.none_sent on) taken.put

    pub wrote_routed : (told : Bool) (middle after : Option (List ℕ)) → Stays progress.made.has_told told → Appends output middle routes → Appends middle after (held_lines progress) → WroteOf wanted table told raws before after
    wrote_routed told middle after stays put puts = record {
      records = taken.records;
      read = taken.read;
      sent = routes ++ held_lines progress;
      put = Appends-trans before middle after routes (held_lines progress) (Appends-trans before output middle [] routes none_put put) puts;
      texts = (known_of progress.made).texts;
      lines = all_lines (record { told = told; texts = (known_of progress.made).texts }) (record { told = stays; texts = λ name text is. is });
    }

    -- a front of them, with a fault
    lost_lines : (sent lost : List ℕ) (after : Option (List ℕ)) → Appends before after sent → routes ++ held_lines progress ≡ sent ++ lost → WroteFront wanted table raws before after
    lost_lines sent lost after put is = record {
      first = raws;
      others = [];
      whole = sym (append-nil raws);
      records = taken.records;
      read = taken.read;
      sent = sent;
      lost = lost;
      put = put;
      texts = (known_of progress.made).texts;
      lines = subst (IsOutput wanted table (known_told (known_of progress.made)) taken.records) is (all_lines (known_told (known_of progress.made)) (grows_told (known_of progress.made)));
    }

    pub lost_routes : (lost : List ℕ) (after : Option (List ℕ)) → PutsBut routes lost output after → WroteFront wanted table raws before after
    lost_routes lost after puts =
        lost_lines puts.front (lost ++ held_lines progress) after (Appends-trans before output after [] puts.front none_put puts.put)
        (ap (λ bs. bs ++ held_lines progress) puts.whole ∙ append_assoc puts.front lost (held_lines progress))

    pub lost_held : (lost : List ℕ) (middle after : Option (List ℕ)) → Appends output middle routes → PutsBut (held_lines progress) lost middle after → WroteFront wanted table raws before after
    lost_held lost middle after put puts =
        lost_lines (routes ++ puts.front) lost after (Appends-trans before middle after routes puts.front (Appends-trans before output middle [] routes none_put put) puts.put)
        (ap (λ bs. routes ++ bs) puts.whole ∙ sym (append_assoc routes puts.front lost))
