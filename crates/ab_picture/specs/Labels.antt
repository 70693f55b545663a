-- What is written of marks.
use Rattle.std.specs.Prelude.{ℕ, List, [], ◌++◌, codes, decimal}
use Rattle.ab_num.specs.declared.party.Party.{Party}
use Rattle.ab_text.specs.declared.line.OpenCause.{OpenCause}
use Rattle.ab_text.specs.declared.line.OpenCause.TheVariants.{Bad, Kind, Tag}
use Rattle.ab_text.specs.Cores.{party_text}
use Rattle.ab_text.specs.Reports.{◌then◌}
use Rattle.ab_picture.specs.declared.picture.Mark.{Mark}
use Rattle.ab_picture.specs.declared.picture.Sign.{Sign}
use Rattle.ab_picture.specs.declared.picture.Sign.TheVariants.{Invoked, Committed, Certified, Entered, Refused, Spent}

abbrev pub cause_words : OpenCause → List ℕ
cause_words Bad = codes "no message"
cause_words Kind = codes "not for it"
cause_words Tag = codes "wrong tag"

abbrev pub invoked_text : Party → ℕ → ℕ → List ℕ
invoked_text p i stamp = party_text p then codes " invokes " then decimal stamp then codes " in instance " then decimal i

-- up to the reply
abbrev pub committed_text : Party → ℕ → ℕ → List ℕ
committed_text p i n = party_text p then codes " commits number " then decimal n then codes " in instance " then decimal i then codes ": "

abbrev pub certified_text : Party → ℕ → List ℕ
certified_text p i = party_text p then codes " takes a certificate of instance " then decimal i

abbrev pub entered_text : Party → ℕ → List ℕ
entered_text p i = party_text p then codes " enters instance " then decimal i

abbrev pub refusing_text : Party → List ℕ
refusing_text p = party_text p then codes " refuses bytes: "

abbrev pub refused_text : Party → OpenCause → List ℕ
refused_text p cause = refusing_text p ++ cause_words cause

abbrev pub spent_text : Party → List ℕ
spent_text p = party_text p then codes " has too few signatures left"

-- what is written of a party up to the reply, if there is one
abbrev pub front_of : Party → Sign → List ℕ
front_of p (Invoked i stamp) = invoked_text p i stamp
front_of p (Committed i n reply) = committed_text p i n
front_of p (Certified i) = certified_text p i
front_of p (Entered i) = entered_text p i
front_of p (Refused cause) = refused_text p cause
front_of p Spent = spent_text p

abbrev pub reply_of : Sign → List ℕ
reply_of (Invoked i stamp) = []
reply_of (Committed i n reply) = reply.items
reply_of (Certified i) = []
reply_of (Entered i) = []
reply_of (Refused cause) = []
reply_of Spent = []

-- what is written of a mark
abbrev pub label_of : Mark → List ℕ
label_of m = front_of m.party m.sign ++ reply_of m.sign
