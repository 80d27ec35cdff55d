use Rattle.pixel_formats.proofs.Zeros.{get_or-zeros}
use Rattle.area_kernels.proofs.square_numbers.WideSquaresSquareSumsFourLanes.zeros.Goals as goal

pub returns : goal.returns
returns g c i = get_or-zeros 272 i
