-- Lists of lines before their first call.
use Rattle.std.proofs.Common.{◌≡◌, List, [], ◌∷◌, ◌++◌, All, subst, sym, arith}
use Rattle.std.proofs.lemmas.List.Elements.{All-push}
use Rattle.wires.specs.Lines.{HasRoom}
use Rattle.tcp_lines.specs.Lines.{TcpLineState, line_of, unused}

pub unused_push : (zs : List TcpLineState) (xs : List TcpLineState) (x : TcpLineState) → zs ≡ xs ++ x ∷ [] → All (λ line. line ≡ unused) xs → x ≡ unused → All (λ line. line ≡ unused) zs
unused_push zs xs x is all one = subst (All (λ line. line ≡ unused)) (sym is) (All-push (λ line. line ≡ unused) xs x all one)

pub unused_room : (lines : List TcpLineState) → All (λ line. line ≡ unused) lines → All (λ line. HasRoom (line_of line)) lines
unused_room lines all = λ k d below. subst (λ (line : TcpLineState). HasRoom (line_of line)) (sym (all k d below)) (record { failures = omega arith; ends = omega arith })
